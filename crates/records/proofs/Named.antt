-- What the interactions of a checked sheet name, one interaction after the other.
use mathlib.Core.Path.{◌≡◌, sym, ap, subst, ◌∙◌}
use mathlib.Core.List.{List, [], ◌∷◌, ◌++◌, flat_map, append_assoc, append-nil}
use Prim.Native.Nat.{ℕ, suc, ◌≤◌}
use native.Mathlib.Omega.{arith}
use lib.ListN.{length}
use Rattle.semantics.specs.Arithmetic.{prime}
use Rattle.semantics.specs.Answer.{good}
use Rattle.semantics.specs.Sheet.{Interaction, Each, GoodInteraction}
use Rattle.semantics.specs.Check.{read_sheet, check}
use Rattle.semantics.specs.Walk.{Mem, Below}
use Rattle.semantics.specs.Lists.{All}
use Rattle.semantics.proofs.Lists.{all_back}
use Rattle.semantics.proofs.Members.{not_in, mem_left, mem_right, cons_below, append_below, flat_below}
use Rattle.semantics.proofs.GraphSheets.{InteractionFacts, interaction_facts}
use Rattle.records.specs.declared.interactions.Part.{Part}
use Rattle.records.specs.declared.interactions.Part.TheVariants.{Count, Fields}
use Rattle.records.specs.Access.{records_of}
use Rattle.records.specs.Named.{part_of, parts_of, references_of, references}
use Rattle.records.proofs.Steps.{inside}

-- What one names is below the number of records.
module _ {n : ℕ} {x : Interaction} (f : InteractionFacts n x) where
  pub count_below : Below n (x.count ∷ [])
  count_below = cons_below n x.count [] f.count (λ c m. not_in c m)

  pub part_below : (part : Part) → Below n (part_of part x)
  part_below Count = count_below
  part_below Fields = f.message

  pub references_below : Below n (references_of x)
  references_below = append_below n x.message (x.count ∷ []) f.message count_below

  -- A part names at most 63 records.
  pub part_few : (part : Part) → length (part_of part x) ≤ 63
  part_few Count = omega arith
  part_few Fields = f.short

each_facts : (n k : ℕ) (xs : List Interaction) → Each (λ i. GoodInteraction n) k xs → All (InteractionFacts n) xs
each_facts n k [] h = tt
each_facts n k (x ∷ xs) h = (interaction_facts n x h.0, each_facts n (suc k) xs h.1)

module _ (ws : List ℕ) (checked : check prime ws ≡ good (read_sheet ws)) where
  abbrev E : ℕ
  E = length (records_of ws)

  pub interactions_good : All (InteractionFacts E) (read_sheet ws).interactions
  interactions_good = each_facts E 0 (read_sheet ws).interactions (inside ws checked).interactions

  -- What all name is below.
  all_below : (one : Interaction → List ℕ) → ((x : Interaction) → InteractionFacts E x → Below E (one x)) → Below E (flat_map one (read_sheet ws).interactions)
  all_below one h = flat_below E one (λ i. GoodInteraction E) (λ i x g. h x (interaction_facts E x g)) 0 (read_sheet ws).interactions (inside ws checked).interactions

  pub parts_below : (part : Part) → Below E (parts_of part (read_sheet ws).interactions)
  parts_below part = all_below (part_of part) (λ x f. part_below f part)

  pub all_references_below : Below E (references (read_sheet ws).interactions)
  all_references_below = all_below references_of (λ x f. references_below f)

-- The interactions that a loop has passed, of all that it goes over: `taken` is what was taken of them, and `left` are those that are left.
pub record PassedRun (one : Interaction → List ℕ) (all left : List Interaction) (taken : List ℕ) : Type 0 where
  pub whole : taken ++ flat_map one left ≡ flat_map one all

module _ {one : Interaction → List ℕ} {all : List Interaction} where
  pub run_none : {left : List Interaction} → left ≡ all → PassedRun one all left []
  run_none e = record { whole = ap (flat_map one) e }

  module _ {left : List Interaction} {taken : List ℕ} (h : PassedRun one all left taken) where
    pub run_below : {b : ℕ} → Below b (flat_map one all) → Below b taken
    run_below b c m = b c (subst (Mem c) h.whole (mem_left c taken (flat_map one left) m))

    pub run_done : left ≡ [] → taken ≡ flat_map one all
    unfolding flat_map
    run_done e = sym (append-nil taken) ∙ ap (λ (xs : List Interaction). taken ++ flat_map one xs) (sym e) ∙ h.whole

    module _ {x : Interaction} {rest : List Interaction} (e : left ≡ x ∷ rest) where
      pub run_whole : taken ++ (one x ++ flat_map one rest) ≡ flat_map one all
      unfolding flat_map
      run_whole = ap (λ (xs : List Interaction). taken ++ flat_map one xs) (sym e) ∙ h.whole

      pub run_next : {b : ℕ} → Below b (flat_map one all) → Below b (one x)
      run_next b c m = b c (subst (Mem c) run_whole (mem_right c taken (one x ++ flat_map one rest) (mem_left c (one x) (flat_map one rest) m)))

      pub run_more : PassedRun one all rest (taken ++ one x)
      run_more = record { whole = append_assoc taken (one x) (flat_map one rest) ∙ run_whole }

-- Those that are left are the last of all, so what holds of all holds of them.
pub record Last (all left : List Interaction) : Type 0 where
  pub before : List Interaction
  pub parts : before ++ left ≡ all

pub last_none : {all left : List Interaction} → left ≡ all → Last all left
last_none e = record { before = []; parts = e }

module _ {all left : List Interaction} (h : Last all left) where
  pub last_more : {x : Interaction} {rest : List Interaction} → left ≡ x ∷ rest → Last all rest
  last_more {x} {rest} e = record {
    before = h.before ++ (x ∷ []);
    parts = append_assoc h.before (x ∷ []) rest ∙ ap (λ (xs : List Interaction). h.before ++ xs) (sym e) ∙ h.parts;
  }

  pub last_all : (P : Interaction → Type 0) → All P all → All P left
  last_all P a = all_back P h.before left (subst (All P) (sym h.parts) a)

-- The interactions of a checked sheet that a loop has passed; those that are left have the facts of its check.
pub record Passed (one : Interaction → List ℕ) (ws : List ℕ) (left : List Interaction) (taken : List ℕ) : Type 0 where
  pub whole : taken ++ flat_map one left ≡ flat_map one (read_sheet ws).interactions
  pub facts : All (InteractionFacts (length (records_of ws))) left

module _ {one : Interaction → List ℕ} {ws : List ℕ} where
  pub passed_run : {left : List Interaction} {taken : List ℕ} → check prime ws ≡ good (read_sheet ws)
      → PassedRun one (read_sheet ws).interactions left taken → Last (read_sheet ws).interactions left → Passed one ws left taken
  passed_run checked r l = record { whole = r.whole; facts = last_all l (InteractionFacts (length (records_of ws))) (interactions_good ws checked) }

  pub passed_none : check prime ws ≡ good (read_sheet ws) → {left : List Interaction} → left ≡ (read_sheet ws).interactions → Passed one ws left []
  passed_none checked e = passed_run checked (run_none e) (last_none e)

  module _ {left : List Interaction} {taken : List ℕ} (h : Passed one ws left taken) where
    run : PassedRun one (read_sheet ws).interactions left taken
    run = record { whole = h.whole }

    pub passed_below : {b : ℕ} → Below b (flat_map one (read_sheet ws).interactions) → Below b taken
    passed_below = run_below run

    pub passed_done : left ≡ [] → taken ≡ flat_map one (read_sheet ws).interactions
    passed_done = run_done run

    module _ {x : Interaction} {rest : List Interaction} (e : left ≡ x ∷ rest) where
      facts_now : All (InteractionFacts (length (records_of ws))) (x ∷ rest)
      facts_now = subst (All (InteractionFacts (length (records_of ws)))) e h.facts

      pub next_facts : InteractionFacts (length (records_of ws)) x
      next_facts = facts_now.0

      pub next_whole : taken ++ (one x ++ flat_map one rest) ≡ flat_map one (read_sheet ws).interactions
      next_whole = run_whole run e

      pub passed_more : Passed one ws rest (taken ++ one x)
      passed_more = record { whole = (run_more run e).whole; facts = facts_now.1 }
