-- The sheet check and the encoding are inverse: the check takes the words of the sheets inside the limits, with at most 126 zeros behind them,
-- and no others, and reads from them the sheet that was encoded.
use mathlib.Core.Path.{◌≡◌, refl, sym, ◌∙◌, ap, subst}
use mathlib.Core.Bool.{Bool, true, false, cond, true≢false, ◌&&◌}
use mathlib.Core.List.{List, [], ◌∷◌, ◌++◌, flat_map, append_assoc, append-nil}
use Prim.Native.Nat.{ℕ, zero, suc, ◌+◌, ◌*◌, ◌-◌, ◌≤◌, ◌<◌}
use native.Mathlib.Omega.{arith}
use lib.Dec.{eqb, leb}
use lib.ListN.{length, get_or, take, drop, replicate, length-append, length-map, length-replicate, length-drop, drop_of_length-le, get_or-append}
use lib.Seq.{take-append_seam, drop-append_seam, drop_at, drop-drop}
use borrow.Author.Tests.{eqb-true, leb-true}
use Rattle.semantics.specs.Answer.{Answer, good, refused}
use Rattle.semantics.specs.Sheet.{Record, Interaction, Sheet, Inside, Each, GoodRecord, GoodInteraction, record_words, interaction_words, head_words, encode}
use Rattle.semantics.specs.Sheet.{length_of, place, table, row, fits, record_tests, interaction_tests, head_tests, refers, passes}
use Rattle.semantics.specs.Check.{Scan, reading, stopped, scan_words, scan_part, scan_parts, scan_spare, scan_sheet, read_record, read_records, read_interaction}
use Rattle.semantics.specs.Check.{read_interactions, read_sheet, judged, check}
use Rattle.semantics.proofs.Basics.{and_true, true_and, cond_true, tests}
use Rattle.semantics.proofs.Lists.{each_at, one_by_one_lem}
use Rattle.semantics.proofs.Places.{records_end, records_limit}

-- The words still to read, and that the scan has not stopped.
abbrev rest : Scan → List ℕ
rest (reading i ws) = ws
rest (stopped n k) = []

abbrev Going : Scan → Type 0
Going (reading i ws) = Unit {0}
Going (stopped n k) = ⊥

stopped≢reading {ℓ} : {X : Type ℓ} {n k j : ℕ} {vs : List ℕ} → stopped n k ≡ reading j vs → X
stopped≢reading e = absurd (subst Going (sym e) tt)

-- A test that stops the scan where it fails has passed, where the scan goes on.
goes_on : (t : Bool) (s : Scan) (n k : ℕ) {j : ℕ} {vs : List ℕ} → cond t s (stopped n k) ≡ reading j vs → (t ≡ true) × (s ≡ reading j vs)
goes_on true s n k h = (refl, h)
goes_on false s n k h = stopped≢reading h

-- Words that pass their tests are read over.
pub scan_words_lem : (n : ℕ) (ts : List (ℕ → Bool)) (us vs : List ℕ) (i : ℕ) → passes ts us ≡ true
    → scan_words n ts (reading i (us ++ vs)) ≡ reading (i + length us) vs
unfolding passes scan_words
scan_words_lem n [] [] vs i h = ap (λ (k : ℕ). reading k vs) (omega arith)
scan_words_lem n [] (u ∷ us) vs i h = absurd (true≢false (sym h))
scan_words_lem n (t ∷ ts) [] vs i h = absurd (true≢false (sym h))
scan_words_lem n (t ∷ ts) (u ∷ us) vs i h =
    cond_true (t u) _ _ (and_true (t u) (passes ts us) h).0
    ∙ scan_words_lem n ts us vs (suc i) (and_true (t u) (passes ts us) h).1
    ∙ ap (λ (k : ℕ). reading k vs) (omega arith)

-- Where the scan goes on, it has read over words that pass their tests.
pub scan_words_only : (n : ℕ) (ts : List (ℕ → Bool)) (s : Scan) (j : ℕ) (vs : List ℕ) → scan_words n ts s ≡ reading j vs
    → (us : List ℕ) × (i : ℕ) × (s ≡ reading i (us ++ vs)) × (passes ts us ≡ true)
unfolding passes scan_words
scan_words_only n [] s j vs h = ([], j, h, refl)
scan_words_only n (t ∷ ts) (stopped m k) j vs h = stopped≢reading h
scan_words_only n (t ∷ ts) (reading i []) j vs h = stopped≢reading h
scan_words_only n (t ∷ ts) (reading i (w ∷ ws)) j vs h =
    let g = goes_on (t w) (scan_words n ts (reading (suc i) ws)) n i h in
    let r = scan_words_only n ts (reading (suc i) ws) j vs g.1 in
    (w ∷ r.0, i, ap (λ (s : Scan). reading i (w ∷ rest s)) r.2, true_and (t w) (passes ts r.0) g.0 r.3)

scan_part_only : (n : ℕ) (tests : List ℕ → List (ℕ → Bool)) (s : Scan) (j : ℕ) (vs : List ℕ) → scan_part n tests s ≡ reading j vs
    → (us : List ℕ) × (i : ℕ) × (s ≡ reading i (us ++ vs)) × (passes (tests (us ++ vs)) us ≡ true)
unfolding scan_part
scan_part_only n tests (stopped m k) j vs h = stopped≢reading h
scan_part_only n tests (reading i ws) j vs h =
    let r = scan_words_only n (tests ws) (reading i ws) j vs h in
    (r.0, r.1, r.2, subst (λ (s : Scan). passes (tests (rest s)) r.0 ≡ true) r.2 r.3)

-- A family of parts, read back: `none` and `more` say how many words the reader takes for so many parts.
module _ {X : Type 0} (words : X → List ℕ) (reads : ℕ → List ℕ → List X)
    (none : (vs : List ℕ) → reads zero vs ≡ [])
    (more : (n : ℕ) (x : X) (vs : List ℕ) → reads (suc n) (words x ++ vs) ≡ x ∷ reads n vs) where
  parts_back : (xs : List X) (vs : List ℕ) → reads (length xs) (flat_map words xs ++ vs) ≡ xs
  unfolding flat_map
  parts_back [] vs = none vs
  parts_back (x ∷ xs) vs =
      ap (reads (suc (length xs))) (append_assoc (words x) (flat_map words xs) vs)
      ∙ more (length xs) x (flat_map words xs ++ vs)
      ∙ ap (λ (ys : List X). x ∷ ys) (parts_back xs vs)

-- A family of parts, scan-sheet-only. `same`: the tests of a part ask its own words alone. `only`: words that pass them are the words of a part.
module _ {X : Type 0} (words : X → List ℕ) (tests : ℕ → List ℕ → List (ℕ → Bool))
    (same : (own : ℕ) (x : X) (vs : List ℕ) → tests own (words x ++ vs) ≡ tests own (words x))
    (only : (own : ℕ) (us vs : List ℕ) → passes (tests own (us ++ vs)) us ≡ true → (x : X) × (us ≡ words x)) where
  abbrev Good : ℕ → X → Type 0
  Good own x = passes (tests own (words x)) (words x) ≡ true

  scan_parts_lem : (n own : ℕ) (xs : List X) (vs : List ℕ) (i : ℕ) → Each Good own xs
      → scan_parts n tests (length xs) own (reading i (flat_map words xs ++ vs)) ≡ reading (i + length (flat_map words xs)) vs
  unfolding flat_map scan_parts scan_part
  scan_parts_lem n own [] vs i h = ap (λ (k : ℕ). reading k vs) (omega arith)
  scan_parts_lem n own (x ∷ xs) vs i h =
      let us : List ℕ = words x in
      let ws : List ℕ = flat_map words xs ++ vs in
      ap (λ (l : List ℕ). scan_parts n tests (length xs) (suc own) (scan_part n (tests own) (reading i l))) (append_assoc us (flat_map words xs) vs)
      ∙ ap (scan_parts n tests (length xs) (suc own)) (scan_words_lem n (tests own (us ++ ws)) us ws i (rw (same own x ws) h.0))
      ∙ scan_parts_lem n (suc own) xs vs (i + length us) h.1
      ∙ ap (λ (k : ℕ). reading k vs) (simp length-append (omega arith))

  scan_parts_only : (n count own : ℕ) (s : Scan) (j : ℕ) (vs : List ℕ) → scan_parts n tests count own s ≡ reading j vs
      → (xs : List X) × (i : ℕ) × (s ≡ reading i (flat_map words xs ++ vs)) × (length xs ≡ count) × Each Good own xs
  unfolding flat_map scan_parts
  scan_parts_only n zero own s j vs h = ([], j, h, refl, tt)
  scan_parts_only n (suc count) own s j vs h =
      let r = scan_parts_only n count (suc own) (scan_part n (tests own) s) j vs h in
      let ws : List ℕ = flat_map words r.0 ++ vs in
      let q = scan_part_only n (tests own) s r.1 ws r.2 in
      let x = only own q.0 ws q.3 in (
        x.0 ∷ r.0,
        q.1,
        q.2
            ∙ ap (λ (us : List ℕ). reading q.1 (us ++ ws)) x.1
            ∙ ap (reading q.1) (sym (append_assoc (words x.0) (flat_map words r.0) vs)),
        ap suc r.3,
        (rw (same own x.0 ws) at (subst (λ (us : List ℕ). passes (tests own (us ++ ws)) us ≡ true) x.1 q.3), r.4),
      )

-- Words that pass: as many as the tests, and each at its place.
pub passes_length : (ts : List (ℕ → Bool)) (us : List ℕ) → passes ts us ≡ true → length us ≡ length ts
unfolding passes
passes_length [] [] h = refl
passes_length [] (u ∷ us) h = absurd (true≢false (sym h))
passes_length (t ∷ ts) [] h = absurd (true≢false (sym h))
passes_length (t ∷ ts) (u ∷ us) h = ap suc (passes_length ts us (and_true (t u) (passes ts us) h).1)

pub passes_at : (ts : List (ℕ → Bool)) (us : List ℕ) (i : ℕ) (t : ℕ → Bool) (u : ℕ) → passes ts us ≡ true → i < length us
    → get_or ts i t (get_or us i u) ≡ true
unfolding passes
passes_at [] [] i t u h l = absurd (omega arith)
passes_at [] (v ∷ us) i t u h l = absurd (true≢false (sym h))
passes_at (s ∷ ts) [] i t u h l = absurd (true≢false (sym h))
passes_at (s ∷ ts) (v ∷ us) zero t u h l = (and_true (s v) (passes ts us) h).0
passes_at (s ∷ ts) (v ∷ us) (suc i) t u h l = passes_at ts us i t u (and_true (s v) (passes ts us) h).1 (omega arith)

-- Records as parts: with a kind from 1 to 9 there are five tests.
pub row_length : (kind : ℕ) → 1 ≤ kind → kind ≤ 9 → length (row kind) ≡ 4
unfolding row table
row_length kind l h =
    each_at (λ i (r : List ℕ). length r ≡ 4) 0 table (kind - 1) []
    (refl, (refl, (refl, (refl, (refl, (refl, (refl, (refl, (refl, tt))))))))) (omega arith)

record_tests_lem : (p own : ℕ) (ws : List ℕ) → 1 ≤ get_or ws 0 0 → get_or ws 0 0 ≤ 9 → length (record_tests p own ws) ≡ 5
unfolding record_tests
record_tests_lem p own ws l h = ap suc (length-map (row (get_or ws 0 0)) (fits p own (get_or ws 1 0)) ∙ row_length (get_or ws 0 0) l h)

record_only : (p own : ℕ) (us vs : List ℕ) → passes (record_tests p own (us ++ vs)) us ≡ true → (r : Record) × (us ≡ record_words r)
unfolding passes record_tests record_words read_record
record_only p own [] vs h = absurd (true≢false (sym h))
record_only p own (k ∷ us) vs h =
    let b = and_true (leb 1 k) (leb k 9) (and_true (leb 1 k && leb k 9) _ h).0 in
    let e = passes_length (record_tests p own (k ∷ us ++ vs)) (k ∷ us) h ∙ record_tests_lem p own (k ∷ us ++ vs) (omega tests) (omega tests) in
    let r : Record = read_record (k ∷ us) in (
      r,
      one_by_one_lem 5 0 (k ∷ us) (omega arith)
          ∙ ap (λ (l : List ℕ). r.kind ∷ r.a ∷ r.b ∷ r.c ∷ r.d ∷ l) (drop_of_length-le (k ∷ us) {i = 5} (omega arith)),
    )

record_same : (p own : ℕ) (r : Record) (vs : List ℕ) → record_tests p own (record_words r ++ vs) ≡ record_tests p own (record_words r)
unfolding record_tests record_words
record_same p own r vs = refl

record_more : (n : ℕ) (r : Record) (vs : List ℕ) → read_records (suc n) (record_words r ++ vs) ≡ r ∷ read_records n vs
unfolding read_records read_record record_words
record_more n r vs = refl

records_none : (vs : List ℕ) → read_records zero vs ≡ []
unfolding read_records
records_none vs = refl

pub records_back : (rs : List Record) (vs : List ℕ) → read_records (length rs) (flat_map record_words rs ++ vs) ≡ rs
records_back = parts_back record_words read_records records_none record_more

scan_records : (p m own : ℕ) (rs : List Record) (vs : List ℕ) (i : ℕ) → Each (GoodRecord p) own rs
    → scan_parts m (record_tests p) (length rs) own (reading i (flat_map record_words rs ++ vs)) ≡ reading (i + length (flat_map record_words rs)) vs
scan_records p = scan_parts_lem record_words (record_tests p) (record_same p) (record_only p)

-- Interactions as parts: the fourth word says how many more there are.
interaction_only : (n own : ℕ) (us vs : List ℕ) → passes (interaction_tests n (us ++ vs)) us ≡ true → (x : Interaction) × (us ≡ interaction_words x)
unfolding interaction_tests interaction_words
interaction_only n own us vs h =
    let e : length us ≡ 4 + get_or (us ++ vs) 3 0 = passes_length _ us h ∙ simp length-replicate (omega arith) in
    let f : get_or us 3 0 ≡ length (drop 4 us) = omega (arith, get_or-append us vs 0 3 (omega arith), length-drop 4 us) in (
      record { bus = get_or us 0 0; weight = get_or us 1 0; count = get_or us 2 0; message = drop 4 us },
      one_by_one_lem 4 0 us (omega arith) ∙ ap (λ (l : ℕ). get_or us 0 0 ∷ get_or us 1 0 ∷ get_or us 2 0 ∷ l ∷ drop 4 us) f,
    )

interaction_same : (n own : ℕ) (x : Interaction) (vs : List ℕ)
    → interaction_tests n (interaction_words x ++ vs) ≡ interaction_tests n (interaction_words x)
unfolding interaction_tests interaction_words
interaction_same n own x vs = refl

interactions_none : (vs : List ℕ) → read_interactions zero vs ≡ []
unfolding read_interactions
interactions_none vs = refl

interaction_more : (n : ℕ) (x : Interaction) (vs : List ℕ) → read_interactions (suc n) (interaction_words x ++ vs) ≡ x ∷ read_interactions n vs
unfolding read_interactions read_interaction interaction_words
interaction_more n x vs = λ i.
    record { bus = x.bus; weight = x.weight; count = x.count; message = take-append_seam x.message vs i }
    ∷ read_interactions n (drop_at (interaction_words x) vs (4 + length x.message) (omega arith) i)

pub interactions_back : (xs : List Interaction) (vs : List ℕ) → read_interactions (length xs) (flat_map interaction_words xs ++ vs) ≡ xs
interactions_back = parts_back interaction_words read_interactions interactions_none interaction_more

scan_interactions : (n m own : ℕ) (xs : List Interaction) (vs : List ℕ) (i : ℕ) → Each (λ own. GoodInteraction n) own xs
    → scan_parts m (λ own. interaction_tests n) (length xs) own (reading i (flat_map interaction_words xs ++ vs))
    ≡ reading (i + length (flat_map interaction_words xs)) vs
scan_interactions n = scan_parts_lem interaction_words (λ own. interaction_tests n) (interaction_same n) (interaction_only n)

-- The words of a sheet and what stands behind them, part by part.
abbrev words_then : Sheet → List ℕ → List ℕ
words_then s vs = head_words s ++ (flat_map record_words s.records ++ (s.constraints ++ (flat_map interaction_words s.interactions ++ vs)))

words_then_lem : (s : Sheet) (vs : List ℕ) → encode s ++ vs ≡ words_then s vs
unfolding encode
words_then_lem s vs = simp append_assoc

pub sheet_length : (s : Sheet)
    → length_of s ≡ place 5 (length s.records) + length s.constraints + length (flat_map interaction_words s.interactions)
unfolding length_of encode head_words
sheet_length s = simp length-append (omega (arith, records_end s.records))

-- The words of a sheet give the sheet back, whatever stands behind them.
pub sheet_back : (s : Sheet) (vs : List ℕ) → read_sheet (encode s ++ vs) ≡ s
unfolding read_sheet head_words
sheet_back s vs = ap read_sheet (words_then_lem s vs) ∙ λ i. record {
  records = records_back s.records (s.constraints ++ I) i;
  constraints = (ap (take (length s.constraints)) skip ∙ take-append_seam s.constraints I) i;
  interactions = (ap (read_interactions (length s.interactions)) skip' ∙ interactions_back s.interactions vs) i;
}
  where
    R : List ℕ
    R = head_words s ++ flat_map record_words s.records

    I : List ℕ
    I = flat_map interaction_words s.interactions ++ vs

    skip : drop (place 5 (length s.records)) (words_then s vs) ≡ s.constraints ++ I
    skip = drop_at R (s.constraints ++ I) (place 5 (length s.records)) (omega (arith, records_end s.records))

    skip' : drop (place 5 (length s.records) + length s.constraints) (words_then s vs) ≡ I
    skip' =
        sym (drop-drop (length s.constraints) (place 5 (length s.records)) (words_then s vs))
        ∙ ap (drop (length s.constraints)) skip
        ∙ drop-append_seam s.constraints I

-- Spare words.
scan_spare_lem : (room k i : ℕ) → k ≤ room → scan_spare room (reading i (replicate k 0)) ≡ reading (i + k) []
unfolding scan_spare
scan_spare_lem zero zero i h = ap (λ (n : ℕ). reading n []) (omega arith)
scan_spare_lem zero (suc k) i h = absurd (omega arith)
scan_spare_lem (suc room) zero i h = ap (λ (n : ℕ). reading n []) (omega arith)
scan_spare_lem (suc room) (suc k) i h = scan_spare_lem room k (suc i) (omega arith) ∙ ap (λ (n : ℕ). reading n []) (omega arith)

scan_spare_only : (room : ℕ) (s : Scan) (j : ℕ) (vs : List ℕ) → scan_spare room s ≡ reading j vs
    → (k : ℕ) × (i : ℕ) × (k ≤ room) × (s ≡ reading i (replicate k 0))
unfolding scan_spare
scan_spare_only room (stopped m k) j vs h = stopped≢reading h
scan_spare_only room (reading i []) j vs h = (0, i, omega arith, refl)
scan_spare_only zero (reading i (w ∷ ws)) j vs h = stopped≢reading h
scan_spare_only (suc room) (reading i (w ∷ ws)) j vs h =
    let g = goes_on (eqb w 0) (scan_spare room (reading (suc i) ws)) 7 i h in
    let r = scan_spare_only room (reading (suc i) ws) j vs g.1 in
    let e : w ≡ 0 = eqb-true w 0 g.0 in
    (suc r.0, i, omega arith, λ k. reading i (e k ∷ rest (r.3 k)))

-- A sheet inside the limits is read over up to its interactions, and up to what stands behind it.
module _ (p : ℕ) (s : Sheet) (h : Inside p s) (vs : List ℕ) where
  pub scan_to_interactions : scan_words 6 (replicate (length s.constraints) (refers (length s.records)))
      (scan_parts 5 (record_tests p) (length s.records) 0 (scan_words 3 head_tests (reading 0 (encode s ++ vs))))
      ≡ reading (place 5 (length s.records) + length s.constraints) (flat_map interaction_words s.interactions ++ vs)
  unfolding head_words
  scan_to_interactions =
      ap (λ (ws : List ℕ). scan_c (scan_r (scan_words 3 head_tests (reading 0 ws)))) (words_then_lem s vs)
      ∙ ap (λ (t : Scan). scan_c (scan_r t)) (scan_words_lem 3 head_tests (head_words s) _ 0 h.head)
      ∙ ap scan_c (scan_records p 5 0 s.records _ _ h.records)
      ∙ scan_words_lem 6 (replicate (length s.constraints) (refers (length s.records))) s.constraints _ _ h.constraints
      ∙ ap (λ (n : ℕ). reading n (flat_map interaction_words s.interactions ++ vs)) (omega (arith, records_end s.records))
    where
      scan_r : Scan → Scan
      scan_r t = scan_parts 5 (record_tests p) (length s.records) 0 t

      scan_c : Scan → Scan
      scan_c t = scan_words 6 (replicate (length s.constraints) (refers (length s.records))) t

  pub scan_to_end : scan_parts 6 (λ own. interaction_tests (length s.records)) (length s.interactions) 0
      (scan_words 6 (replicate (length s.constraints) (refers (length s.records)))
      (scan_parts 5 (record_tests p) (length s.records) 0 (scan_words 3 head_tests (reading 0 (encode s ++ vs)))))
      ≡ reading (length_of s) vs
  scan_to_end =
      ap (scan_parts 6 (λ own. interaction_tests (length s.records)) (length s.interactions) 0) scan_to_interactions
      ∙ scan_interactions (length s.records) 6 0 s.interactions vs _ h.interactions
      ∙ ap (λ (n : ℕ). reading n vs) (omega (arith, sheet_length s))

-- A sheet inside the limits, with at most 126 zeros behind it, is read to the end.
pub scan_sheet_lem : (p : ℕ) (s : Sheet) (k : ℕ) → Inside p s → k ≤ 126 → scan_sheet p (encode s ++ replicate k 0) ≡ reading (length_of s + k) []
unfolding scan_sheet encode head_words
scan_sheet_lem p s k h l = ap (scan_spare 126) (scan_to_end p s h (replicate k 0)) ∙ scan_spare_lem 126 k _ l

pub check_complete : (p : ℕ) (s : Sheet) (k : ℕ) → Inside p s → k ≤ 126 → check p (encode s ++ replicate k 0) ≡ good s
unfolding check judged
check_complete p s k h l = λ i. judged (scan_sheet_lem p s k h l i) (sheet_back s (replicate k 0) i)

-- Results, told apart from refusals and from each other.
abbrev result_or : {X : Type 0} → X → Answer X → X
result_or d (good x) = x
result_or d (refused n k) = d

abbrev IsGood : {X : Type 0} → Answer X → Type 0
IsGood (good x) = Unit {0}
IsGood (refused n k) = ⊥

pub good_injective : {X : Type 0} {x y : X} → good x ≡ good y → x ≡ y
good_injective {x} e = ap (result_or x) e

pub refused≢good {ℓ} : {X : Type 0} {Y : Type ℓ} {n k : ℕ} {x : X} → refused n k ≡ good x → Y
refused≢good e = absurd (subst IsGood (sym e) tt)

-- Only a scan that goes on to the end is judged good.
judged_good : {X : Type 0} (t : Scan) (x y : X) → judged t x ≡ good y → (j : ℕ) × (vs : List ℕ) × (t ≡ reading j vs)
unfolding judged
judged_good (reading j vs) x y h = (j, vs, refl)
judged_good (stopped n k) x y h = refused≢good h

head_only : (us : List ℕ) → passes head_tests us ≡ true → us ≡ 1 ∷ get_or us 1 0 ∷ get_or us 2 0 ∷ get_or us 3 0 ∷ []
unfolding passes head_tests
head_only [] h = absurd (true≢false (sym h))
head_only (f ∷ us) h =
    let e : length (f ∷ us) ≡ 4 = passes_length head_tests (f ∷ us) h in
    let one : f ≡ 1 = eqb-true f 1 (and_true (eqb f 1) _ h).0 in
    let end : drop 4 (f ∷ us) ≡ [] = drop_of_length-le (f ∷ us) {i = 4} (omega arith) in
    one_by_one_lem 4 0 (f ∷ us) (omega arith) ∙ λ i. one i ∷ get_or us 0 0 ∷ get_or us 1 0 ∷ get_or us 2 0 ∷ end i

-- Parts that pass their tests, as many as the head says, make a sheet inside the limits.
assembled : (p : ℕ) (ws hs : List ℕ) (rs : List Record) (cs : List ℕ) (xs : List Interaction) (vs : List ℕ) (i : ℕ)
    → reading 0 ws ≡ reading i (hs ++ (flat_map record_words rs ++ (cs ++ (flat_map interaction_words xs ++ vs))))
    → passes head_tests hs ≡ true
    → length rs ≡ get_or ws 1 0 → Each (GoodRecord p) 0 rs
    → passes (replicate (get_or ws 2 0) (refers (get_or ws 1 0))) cs ≡ true
    → length xs ≡ get_or ws 3 0 → Each (λ i. GoodInteraction (get_or ws 1 0)) 0 xs
    → (s : Sheet) × Inside p s × (ws ≡ encode s ++ vs)
unfolding head_words head_tests
assembled p ws hs rs cs xs vs i e h lr gr gc lx gx = (
  s,
  record {
    head = rw headed at h;
    records = gr;
    constraints = rw (← lr, ← lc) at gc;
    interactions = subst (λ (n : ℕ). Each (λ i. GoodInteraction n) 0 xs) (sym lr) gx;
  },
  rw (words_then_lem s vs) (ap rest e ∙ ap (λ (us : List ℕ). us ++ (flat_map record_words rs ++ (cs ++ (flat_map interaction_words xs ++ vs)))) headed),
)
  where
    s : Sheet
    s = record { records = rs; constraints = cs; interactions = xs }

    at_head : (n : ℕ) → n < 4 → get_or ws n 0 ≡ get_or hs n 0
    at_head n l = ap (λ (us : Scan). get_or (rest us) n 0) e ∙ get_or-append hs _ 0 n (omega (arith, passes_length head_tests hs h))

    lc : length cs ≡ get_or ws 2 0
    lc = passes_length _ cs gc ∙ length-replicate (get_or ws 2 0) (refers (get_or ws 1 0))

    headed : hs ≡ head_words s
    headed =
        head_only hs h
        ∙ sym (λ i. 1 ∷ (lr ∙ at_head 1 (omega arith)) i ∷ (lc ∙ at_head 2 (omega arith)) i ∷ (lx ∙ at_head 3 (omega arith)) i ∷ [])

scan_sheet_only : (p : ℕ) (ws : List ℕ) (j : ℕ) (vs : List ℕ) → scan_sheet p ws ≡ reading j vs
    → (s : Sheet) × (k : ℕ) × Inside p s × (k ≤ 126) × (ws ≡ encode s ++ replicate k 0)
unfolding scan_sheet
scan_sheet_only p ws j vs h =
    let E : ℕ = get_or ws 1 0 in
    let I : ℕ = get_or ws 3 0 in
    let z = scan_spare_only 126 _ j vs h in
    let x = scan_parts_only interaction_words (λ own. interaction_tests E) (interaction_same E) (interaction_only E) 6 I 0 _ z.1 _ z.3 in
    let c = scan_words_only 6 (replicate (get_or ws 2 0) (refers E)) _ x.1 _ x.2 in
    let r = scan_parts_only record_words (record_tests p) (record_same p) (record_only p) 5 E 0 _ c.1 _ c.2 in
    let f = scan_words_only 3 head_tests (reading 0 ws) r.1 _ r.2 in
    let a = assembled p ws f.0 r.0 c.0 x.0 _ f.1 f.2 f.3 r.3 r.4 c.3 x.3 x.4 in
    (a.0, z.0, a.1, z.2, a.2)

-- The words of a sheet inside the limits, with at most 126 zeros behind them, are what the check takes.
pub check_sound : (p : ℕ) (ws : List ℕ) (s : Sheet) → check p ws ≡ good s
    → Inside p s × ((k : ℕ) × (k ≤ 126) × (ws ≡ encode s ++ replicate k 0))
unfolding check
check_sound p ws s h =
    let t = judged_good (scan_sheet p ws) (read_sheet ws) s h in
    go (scan_sheet_only p ws t.0 t.1 t.2)
  where
    go : (t : Sheet) × (k : ℕ) × Inside p t × (k ≤ 126) × (ws ≡ encode t ++ replicate k 0)
        → Inside p s × ((k : ℕ) × (k ≤ 126) × (ws ≡ encode s ++ replicate k 0))
    go (t, k, i, l, e) =
        let same : t ≡ s = good_injective (sym (check_complete p t k i l) ∙ ap (check p) (sym e) ∙ h) in
        (subst (Inside p) same i, (k, l, e ∙ ap (λ (u : Sheet). encode u ++ replicate k 0) same))

pub check_inside : (p : ℕ) (ws : List ℕ) (s : Sheet) → check p ws ≡ good s → Inside p s
check_inside p ws s h = (check_sound p ws s h).0

pub check_encode : (p : ℕ) (s : Sheet) → Inside p s → check p (encode s) ≡ good s
check_encode p s h = ap (check p) (sym (append-nil (encode s))) ∙ check_complete p s 0 h (omega arith)

-- Two sheets whose words are the same, whatever stands behind them, are the same.
pub same_sheet : (s t : Sheet) (us vs : List ℕ) → encode s ++ us ≡ encode t ++ vs → s ≡ t
same_sheet s t us vs e = sym (sheet_back s us) ∙ ap read_sheet e ∙ sheet_back t vs

-- How long a sheet inside the limits is at most.
pub head_limits : (s : Sheet) → passes head_tests (head_words s) ≡ true
    → (length s.records ≤ 4096) × (length s.constraints ≤ 1024) × (length s.interactions ≤ 1024)
unfolding head_tests head_words
head_limits s h =
    let any : ℕ → Bool = λ w. true in (
      leb-true _ _ (passes_at head_tests (head_words s) 1 any 0 h (omega arith)),
      leb-true _ _ (passes_at head_tests (head_words s) 2 any 0 h (omega arith)),
      leb-true _ _ (passes_at head_tests (head_words s) 3 any 0 h (omega arith)),
    )

pub message_limit : (n : ℕ) (x : Interaction) → GoodInteraction n x → length x.message ≤ 63
unfolding interaction_tests interaction_words
message_limit n x h = leb-true _ _ (passes_at (interaction_tests n (interaction_words x)) (interaction_words x) 3 (λ w. true) 0 h (omega arith))

interactions_limit : (n own : ℕ) (xs : List Interaction) → Each (λ i. GoodInteraction n) own xs
    → length (flat_map interaction_words xs) ≤ 67 * length xs
unfolding flat_map interaction_words
interactions_limit n own [] h = omega arith
interactions_limit n own (x ∷ xs) h =
    let ih = interactions_limit n (suc own) xs h.1 in
    let m = message_limit n x h.0 in
    simp length-append (omega arith)

pub length_limit : (p : ℕ) (s : Sheet) → Inside p s → length_of s ≤ 90116
length_limit p s h =
    let l = head_limits s h.head in
    omega (arith, sheet_length s, l, records_limit (length s.records) l.0, interactions_limit (length s.records) 0 s.interactions h.interactions)
