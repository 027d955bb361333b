-- The walk of the interactions: the counts of all, then the fields of all.
use mathlib.Core.Path.{◌≡◌, refl, sym, subst}
use mathlib.Core.List.{List, ◌++◌}
use Prim.Native.Nat.{ℕ}
use lib.ListN.{length}
use Rattle.semantics.specs.Arithmetic.{prime}
use Rattle.semantics.specs.Answer.{good}
use Rattle.semantics.specs.Sheet.{Interaction}
use Rattle.semantics.specs.Check.{read_sheet, check}
use Rattle.semantics.specs.Walk.{Mem, Below, order}
use Rattle.semantics.specs.Group.{count_roots, field_roots}
use Rattle.semantics.proofs.Members.{append_below, mem_left, mem_right}
use Rattle.semantics.proofs.Demands.{count_nodes, field_nodes}
use Rattle.records.specs.declared.interactions.Part.{Part}
use Rattle.records.specs.declared.interactions.Part.TheVariants.{Count, Fields}
use Rattle.records.specs.Access.{counts_of, fields_of, records_of}
use Rattle.records.specs.Named.{parts_of}
use Rattle.records.proofs.Named.{parts_below}
use Rattle.std.specs.Prelude.{Result, Ok, Err}
use Rattle.answers.specs.declared.Refusal.{Refusal}
use Rattle.expand.specs.declared.Walk.{Walk}
use Rattle.expand.specs.Walking.{PoolHolds}
use Rattle.expand.specs.Walks.{ExpandWalking, Walked}
use Rattle.expand.proofs.Far.{Far, far_none, far_refused, far_more, far_walking, far_both}
use Rattle.grouping.specs.Families.{Grouping}
use Rattle.constraint_lists.proofs.Walked.{grouping_of}

-- One list of roots after another.
module _ {v : Walk} (p : ExpandWalking v) (front-roots back-roots : List ℕ) (below : Below (length (records_of v.sheet.words.now)) front-roots)
    (w : Walk) (u : Result (Unit {0}) Refusal) (f : Walked v front-roots w u) where
  pub first_refused : {q : Refusal} → u ≡ Err q → Walked v (front-roots ++ back-roots) w u
  first_refused e = far_refused p (far_none p) front-roots w u f e back-roots (front-roots ++ back-roots) refl

  module _ {n : Unit {0}} (e : u ≡ Ok n) where
    first_far : Far v front-roots w
    first_far = far_more p (far_none p) front-roots w u f below e

    pub second_walking : ExpandWalking w
    second_walking = far_walking p first_far

    pub both_walked : (x : Walk) (t : Result (Unit {0}) Refusal) → Walked w back-roots x t → Walked v (front-roots ++ back-roots) x t
    both_walked x t g = far_both p first_far back-roots x t g

module _ (ws : List ℕ) (checked : check prime ws ≡ good (read_sheet ws)) where
  abbrev xs : List Interaction
  xs = (read_sheet ws).interactions

  -- What a part of them names is below, also for a walk over the same words.
  pub part_below : (part : Part) {all : List Interaction} → all ≡ xs → {s : List ℕ} → s ≡ ws → Below (length (records_of s)) (parts_of part all)
  part_below part {all} a e =
      subst (λ (s : List ℕ). Below (length (records_of s)) (parts_of part all)) (sym e)
      (subst (λ (ys : List Interaction). Below (length (records_of ws)) (parts_of part ys)) (sym a) (parts_below ws checked part))

  pub named_below_both : Below (length (records_of ws)) (counts_of xs ++ fields_of xs)
  named_below_both = append_below (length (records_of ws)) (counts_of xs) (fields_of xs) (parts_below ws checked Count) (parts_below ws checked Fields)

  -- The lists of all counts and fields stand in the pool.
  module _ (pool : List ℕ) (used : ℕ) (holds : PoolHolds ws (order (records_of ws) (counts_of xs ++ fields_of xs)) pool used) where
    pub counts_grouping : Grouping ws pool (count_roots (read_sheet ws))
    counts_grouping =
        grouping_of ws checked (counts_of xs ++ fields_of xs) named_below_both pool used holds (count_roots (read_sheet ws))
        (λ i m. mem_left i (counts_of xs) (fields_of xs) (subst (Mem i) (count_nodes (read_sheet ws)) m))

    pub fields_grouping : Grouping ws pool (field_roots (read_sheet ws))
    fields_grouping =
        grouping_of ws checked (counts_of xs ++ fields_of xs) named_below_both pool used holds (field_roots (read_sheet ws))
        (λ i m. mem_right i (counts_of xs) (fields_of xs) (subst (Mem i) (field_nodes (read_sheet ws)) m))
