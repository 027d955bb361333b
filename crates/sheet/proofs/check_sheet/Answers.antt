-- The check goes in five stages, of which each stops the whole or leaves the cursor where the next begins. Of each stage: that it has
-- scanned the sheet so far, from the first word on.
use mathlib.Core.Path.{◌≡◌, refl, sym, ap, ◌∙◌}
use mathlib.Core.List.{List, ◌∷◌}
use Prim.Native.Nat.{ℕ}
use lib.ListN.{get_or, replicate}
use Rattle.semantics.specs.Arithmetic.{prime}
use Rattle.semantics.specs.Sheet.{record_tests, interaction_tests, head_tests, refers}
use Rattle.semantics.specs.Check.{Scan, reading, stopped, scan_words, scan_parts, scan_spare, scan_sheet}
use Rattle.semantics.specs.Call.{check_call}
use Rattle.std.specs.Prelude.{Result, Ok, Err}
use Rattle.answers.specs.declared.Refusal.{Refusal}
use Rattle.sheet.specs.Readings.{Reading, from}
use Rattle.sheet.specs.Scans.{scan_of}
use Rattle.sheet.specs.Replies.{checked_outcome}
use Rattle.sheet.proofs.Laws.{stops, goes, refuses, is_head, after_interactions, after_constraints, after_records, after_head, from_head}
use Rattle.sheet.proofs.Laws.{interactions_stay, constraints_stay, records_stay, head_stays}
use Rattle.sheet.proofs.check_sheet.Goals as goal

module _ (w : List ℕ) where
  -- The tests of the records, the constraints and the interactions, by the counts of the head, and the scan behind each stage.
  abbrev test_records : Scan → Scan
  test_records = scan_parts 5 (record_tests prime) (get_or w 1 0) 0

  abbrev test_constraints : Scan → Scan
  test_constraints = scan_words 6 (replicate (get_or w 2 0) (refers (get_or w 1 0)))

  abbrev test_interactions : Scan → Scan
  test_interactions = scan_parts 6 (λ own. interaction_tests (get_or w 1 0)) (get_or w 3 0) 0

  abbrev behind_head : Scan
  behind_head = scan_words 3 head_tests (reading 0 w)

  abbrev behind_records : Scan
  behind_records = test_records behind_head

  abbrev behind_constraints : Scan
  behind_constraints = test_constraints behind_records

  abbrev behind_interactions : Scan
  behind_interactions = test_interactions behind_constraints

  -- A stage that stops: the tests behind it, `rest`, stay at the refusal.
  refused : (rest : Scan → Scan) {s : Scan} → ((m k : ℕ) → rest (stopped m k) ≡ stopped m k) → rest s ≡ scan_sheet prime w
      → {X : Type 0} (r : Result X Refusal) (now : Reading) → scan_of r now ≡ s → (v : Refusal) → r ≡ Err v → checked_outcome (Err v) ≡ check_call prime w
  refused rest stays whole r now e v q = refuses prime w v (stops r now e rest stays v q ∙ whole)

  -- The stages, of which each starts where the one before it ends.
  scanned_head : {b : Reading} {s : Scan} → b ≡ record { at = 0; words = w } → s ≡ scan_words 3 head_tests (from b) → s ≡ behind_head
  scanned_head b e = e ∙ ap (λ (r : Reading). scan_words 3 head_tests (from r)) b

  scanned_records : {n : ℕ} {s t : Scan} → n ≡ get_or w 1 0 → s ≡ behind_head → t ≡ scan_parts 5 (record_tests prime) n 0 s → t ≡ behind_records
  scanned_records n h e = e ∙ (λ i. scan_parts 5 (record_tests prime) (n i) 0 (h i))

  scanned_constraints : {n k : ℕ} {s t : Scan} → n ≡ get_or w 1 0 → k ≡ get_or w 2 0 → s ≡ behind_records
      → t ≡ scan_words 6 (replicate k (refers n)) s → t ≡ behind_constraints
  scanned_constraints n k h e = e ∙ (λ i. scan_words 6 (replicate (k i) (refers (n i))) (h i))

  scanned_interactions : {n k : ℕ} {s t : Scan} → n ≡ get_or w 1 0 → k ≡ get_or w 3 0 → s ≡ behind_constraints
      → t ≡ scan_parts 6 (λ own. interaction_tests n) k 0 s → t ≡ behind_interactions
  scanned_interactions n k h e = e ∙ (λ i. scan_parts 6 (λ own. interaction_tests (n i)) (k i) 0 (h i))

  scanned_spare : {s t : Scan} → s ≡ behind_interactions → t ≡ scan_spare 126 s → t ≡ scan_sheet prime w
  scanned_spare h e = e ∙ ap (scan_spare 126) h ∙ from_head prime w

  -- The counts that were read are those of the head.
  counted : {b : Reading} {form e c i : ℕ} {rest : List ℕ} → b ≡ record { at = 0; words = w } → b.words ≡ form ∷ e ∷ c ∷ i ∷ rest
      → (e ≡ get_or w 1 0) × (c ≡ get_or w 2 0) × (i ≡ get_or w 3 0)
  counted {b} {form} {e} {c} {i} {rest} q k =
      let all : form ∷ e ∷ c ∷ i ∷ rest ≡ w = sym k ∙ ap (λ (r : Reading). r.words) q in
      (ap (λ (l : List ℕ). get_or l 1 0) all, ap (λ (l : List ℕ). get_or l 2 0) all, ap (λ (l : List ℕ). get_or l 3 0) all)

pub returns-in_default : goal.returns-in_default
returns-in_default c =
    let w = c.args.s.now in
    refused w (after_head prime w) (head_stays prime w) (from_head prime w) _ _ (scanned_head w c.new-cursor.ensures c.head-head.ensures.scan) _ c.unwrap_err.ensures

pub returns-in_default-all_records : goal.returns-in_default-all_records
returns-in_default-all_records c =
    let w = c.args.s.now in
    let n = counted w c.new-cursor.ensures c.in-Ok.ensures.counts.1 in
    let head = goes _ _ (scanned_head w c.new-cursor.ensures c.head-head.ensures.scan) _ c.in-Ok.is in
    let records = scanned_records w n.0 head c.records-all_records.ensures in
    refused w (after_records prime w) (records_stay prime w) (from_head prime w) _ _ records _ c.unwrap_err-in_default-all_records.ensures

pub returns-in_default-all_constraints : goal.returns-in_default-all_constraints
returns-in_default-all_constraints c =
    let w = c.args.s.now in
    let n = counted w c.new-cursor.ensures c.in-Ok.ensures.counts.1 in
    let head = goes _ _ (scanned_head w c.new-cursor.ensures c.head-head.ensures.scan) _ c.in-Ok.is in
    let records = goes _ _ (scanned_records w n.0 head c.records-all_records.ensures) _ c.in-Ok-all_records.is in
    let constraints = scanned_constraints w n.0 n.1 records c.references-all_constraints.ensures in
    refused w (after_constraints prime w) (constraints_stay prime w) (from_head prime w) _ _ constraints _ c.unwrap_err-in_default-all_constraints.ensures

pub returns-in_default-all_interactions : goal.returns-in_default-all_interactions
returns-in_default-all_interactions c =
    let w = c.args.s.now in
    let n = counted w c.new-cursor.ensures c.in-Ok.ensures.counts.1 in
    let head = goes _ _ (scanned_head w c.new-cursor.ensures c.head-head.ensures.scan) _ c.in-Ok.is in
    let records = goes _ _ (scanned_records w n.0 head c.records-all_records.ensures) _ c.in-Ok-all_records.is in
    let constraints = goes _ _ (scanned_constraints w n.0 n.1 records c.references-all_constraints.ensures) _ c.in-Ok-all_constraints.is in
    let interactions = scanned_interactions w n.0 n.2 constraints c.interactions-all_interactions.ensures in
    refused w (after_interactions prime w) (interactions_stay prime w) (from_head prime w) _ _ interactions _ c.unwrap_err-in_default-all_interactions.ensures

pub returns-in_default-spare : goal.returns-in_default-spare
returns-in_default-spare c =
    let w = c.args.s.now in
    let n = counted w c.new-cursor.ensures c.in-Ok.ensures.counts.1 in
    let head = goes _ _ (scanned_head w c.new-cursor.ensures c.head-head.ensures.scan) _ c.in-Ok.is in
    let records = goes _ _ (scanned_records w n.0 head c.records-all_records.ensures) _ c.in-Ok-all_records.is in
    let constraints = goes _ _ (scanned_constraints w n.0 n.1 records c.references-all_constraints.ensures) _ c.in-Ok-all_constraints.is in
    let interactions = goes _ _ (scanned_interactions w n.0 n.2 constraints c.interactions-all_interactions.ensures) _ c.in-Ok-all_interactions.is in
    refused w (λ s. s) (λ m k. refl) refl _ _ (scanned_spare w interactions c.spare-spare.ensures) _ c.unwrap_err-in_default-spare.ensures

pub returns : goal.returns
returns c =
    let w = c.args.s.now in
    let n = counted w c.new-cursor.ensures c.in-Ok.ensures.counts.1 in
    let head = goes _ _ (scanned_head w c.new-cursor.ensures c.head-head.ensures.scan) _ c.in-Ok.is in
    let records = goes _ _ (scanned_records w n.0 head c.records-all_records.ensures) _ c.in-Ok-all_records.is in
    let constraints = goes _ _ (scanned_constraints w n.0 n.1 records c.references-all_constraints.ensures) _ c.in-Ok-all_constraints.is in
    let interactions = goes _ _ (scanned_interactions w n.0 n.2 constraints c.interactions-all_interactions.ensures) _ c.in-Ok-all_interactions.is in
    let spare = goes _ _ (scanned_spare w interactions c.spare-spare.ensures) _ c.in-Ok-spare.is in
    (λ i. checked_outcome (Ok (record {
      records = n.0 i;
      constraints = n.1 i;
      interactions = n.2 i;
      start = c.position-start.ensures i;
      words = c.position-words.ensures i;
    })))
    ∙ is_head prime w spare _ constraints _ (interactions ∙ ap (test_interactions w) (sym constraints))
