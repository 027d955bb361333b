-- The steps of an expansion, in the order of its refusals.
use mathlib.Core.Path.{◌≡◌, refl, sym, ap, subst, ◌∙◌}
use mathlib.Core.List.{List, [], ◌∷◌, map}
use Prim.Native.Nat.{ℕ, ◌+◌, ◌*◌, ◌≤◌}
use native.Mathlib.Omega.{arith}
use lib.Dec.{eqb}
use lib.ListN.{length, take}
use borrow.Author.Tests.{eq-eqb, ne_eqb}
use Rattle.semantics.specs.Arithmetic.{prime}
use Rattle.semantics.specs.Answer.{Answer, good, refused, and_then}
use Rattle.semantics.specs.Sheet.{Sheet}
use Rattle.semantics.specs.Check.{read_sheet}
use Rattle.semantics.specs.Walk.{order}
use Rattle.semantics.specs.Expand.{expand_all}
use Rattle.semantics.specs.Group.{Root, Item, Group, constraint_roots, constraint_term, headers, variables, terms, layout}
use Rattle.semantics.specs.Call.{Result as Made, needs, result, fitted, first_short, family, constraint_outputs, expansion_of}
use Rattle.semantics.proofs.Basics.{cond_true, cond_false}
use Rattle.semantics.proofs.Calls.{needs_met}
use Rattle.records.specs.Access.{records_of}
use Rattle.std.specs.Prelude.{Result, Ok, Err, IfOk}
use Rattle.answers.specs.declared.Refusal.{Refusal}
use Rattle.answers.specs.Replies.{number_of, answer_of}
use Rattle.expand.specs.Walking.{PoolHolds, Expands}
use Rattle.grouping.specs.declared.Lengths.{Lengths}
use Rattle.grouping.specs.Families.{short_number, groups_of, Front, Laid}
use Rattle.grouping.proofs.Slices.{short_number_some}
use Rattle.constraint_lists.specs.declared.Outputs.{Outputs}
use Rattle.constraint_lists.specs.declared.Scratch.{Scratch}
use Rattle.constraint_lists.specs.Lists.{SameScratch, lengths_of, words_of, Fit, SameSlices, GroupedAs, ScratchFits}

-- A call on a checked sheet whose roots name these records.
module _ (ws : List ℕ) (work pool : ℕ) (lent : List ℕ) (roots : Sheet → List Root) (outputs : Sheet → List (List ℕ)) (numbers : Sheet → List ℕ) where
  abbrev s : Sheet
  s = read_sheet ws

  abbrev whole : Answer Made
  whole = expansion_of prime (work ∷ pool ∷ lent) roots outputs numbers s

  abbrev ends : Answer ℕ → Answer Made
  ends a = and_then a (λ used. fitted (outputs s) lent (numbers s))

  abbrev walk : Answer ℕ
  walk = expand_all prime s.records pool (order s.records (map (λ (r : Root). r.node) (roots s)))

  pub scratch_refused : (c : Result (Unit {0}) Refusal) {q : Refusal} → ScratchFits work pool (length s.records) c → c ≡ Err q
      → refused (number_of q.reason) q.place ≡ whole
  unfolding expansion_of
  scratch_refused c f g = subst (λ (r : Result (Unit {0}) Refusal). ScratchFits work pool (length s.records) r) g f (ends walk)

  module _ (enough : 4096 ≤ work) (room : 2 * length s.records ≤ pool) (named : List ℕ) (are : map (λ (r : Root). r.node) (roots s) ≡ named) where
    walks : (pool' : List ℕ) → length pool' ≡ pool → ends (expand_all prime s.records (length pool') (order s.records named)) ≡ whole
    unfolding expansion_of
    walks pool' e =
        (λ i. ends (expand_all prime s.records (e i) (order s.records (sym are i))))
        ∙ sym (needs_met 14 (2 * length s.records) pool (ends walk) room)
        ∙ sym (needs_met 14 4096 work (needs 14 (2 * length s.records) pool (ends walk)) enough)

    pub walk_refused : (w : Result (Unit {0}) Refusal) {q : Refusal} (pool' : List ℕ) → length pool' ≡ pool
        → (used : ℕ) × Expands ws pool' used w (order (records_of ws) named) → w ≡ Err q → refused (number_of q.reason) q.place ≡ whole
    unfolding and_then
    walk_refused w {q} pool' e f g =
        ap ends (sym (subst (λ (u : Result (Unit {0}) Refusal). Expands ws pool' f.0 u (order (records_of ws) named)) g f.1)) ∙ walks pool' e

    pub walk_done : (used : ℕ) (pool' : List ℕ) → length pool' ≡ pool → PoolHolds ws (order (records_of ws) named) pool' used
        → fitted (outputs s) lent (numbers s) ≡ whole
    unfolding and_then
    walk_done used pool' e holds = ap ends (sym holds.used_is) ∙ walks pool' e

-- The lists that stand in front of the slices are what fits, or the first slice that is too short is told.
module _ (outputs : List (List ℕ)) (lent numbers : List ℕ) where
  pub fits : first_short 1 outputs lent ≡ 0 → good (record { outputs = outputs; numbers = numbers }) ≡ fitted outputs lent numbers
  unfolding fitted result
  fits e =
      sym (cond_true (eqb (first_short 1 outputs lent) 0) (result outputs numbers) (refused 17 (first_short 1 outputs lent))
      (eq-eqb (first_short 1 outputs lent) 0 e))

  pub short : (k : ℕ) → first_short 1 outputs lent ≡ k → (k ≡ 0 → ⊥) → refused 17 k ≡ fitted outputs lent numbers
  unfolding fitted
  short k e n =
      ap (refused 17) (sym e)
      ∙ sym (cond_false (eqb (first_short 1 outputs lent) 0) (result outputs numbers) (refused 17 (first_short 1 outputs lent))
      (ne_eqb (first_short 1 outputs lent) 0 (λ q. n (sym e ∙ q))))

front_take : (k : ℕ) (words slice : List ℕ) → Front words slice → k ≡ length words → take k slice ≡ words
front_take k words slice f e = ap (λ (n : ℕ). take n slice) e ∙ f.1

-- Lists that are written are the layout of their groups, and stand inside their slices.
module _ (term : Item → List ℕ) (gs : List Group) (o : Outputs) (n : Lengths) where
  pub written : Laid term gs o.headers.now o.variables.now o.terms.now (Ok n) → words_of n o ≡ layout term gs
  unfolding layout
  written (z, fh, fv, ft, eh, ev, et) =
      λ i. front_take n.headers (headers 0 0 gs) o.headers.now fh eh i ∷ front_take n.variables (variables gs) o.variables.now fv ev i
      ∷ front_take n.terms (terms term gs) o.terms.now ft et i ∷ []

  pub written_inside : Laid term gs o.headers.now o.variables.now o.terms.now (Ok n) → Fit n o
  written_inside (z, fh, fv, ft, eh, ev, et) = (
    subst (λ (k : ℕ). k ≤ length o.headers.now) (sym eh) fh.0,
    subst (λ (k : ℕ). k ≤ length o.variables.now) (sym ev) fv.0,
    subst (λ (k : ℕ). k ≤ length o.terms.now) (sym et) ft.0,
  )

module _ (gs : List Group) (o : Outputs) where
  laid_constraints : (r : Result Lengths Refusal) → GroupedAs 0 constraint_term gs o r
      → and_then (answer_of r) (λ (n : Lengths). result (words_of n o) []) ≡ fitted (layout constraint_term gs) (lengths_of o) []
  unfolding and_then result
  laid_constraints (Ok n) l =
      (λ i. good (record { outputs = written constraint_term gs o n l i; numbers = [] })) ∙ fits (layout constraint_term gs) (lengths_of o) [] l.0
  laid_constraints (Err q) (k, l) =
      let z : 0 + short_number k ≡ short_number k = omega arith in
      (λ i. refused (number_of (l.1 i).reason) (l.1 i).place) ∙ ap (refused 17) z
      ∙ short (layout constraint_term gs) (lengths_of o) [] (short_number k) l.0 (short_number_some k)

  laid_inside : (r : Result Lengths Refusal) → GroupedAs 0 constraint_term gs o r → IfOk r (λ (n : Lengths). Fit n o)
  laid_inside (Ok n) l = written_inside constraint_term gs o n l
  laid_inside (Err q) l = tt

-- The slices are the same where nothing is written, and after one call and another.
pub same_here : (o : Outputs) → SameSlices o o
same_here o = record { headers = refl; variables = refl; terms = refl; lengths = refl }

pub same_scratch : (x : Scratch) → SameScratch x x
same_scratch x = record { work = refl; pool = refl; work_long = refl; pool_long = refl }

-- The constraints of a checked sheet, once all is walked.
pub constraints_grouped : (ws : List ℕ) {before after : Outputs} → SameSlices before after → (r : Result Lengths Refusal)
    → GroupedAs 0 constraint_term (groups_of ws (constraint_roots (read_sheet ws))) after r
    → (and_then (answer_of r) (λ (n : Lengths). result (words_of n after) []) ≡ fitted (constraint_outputs prime (read_sheet ws)) (lengths_of before) []) × IfOk r (λ (n : Lengths). Fit n after)
unfolding constraint_outputs family
constraints_grouped ws {before} {after} same r l = (
  laid_constraints (groups_of ws (constraint_roots (read_sheet ws))) after r l
      ∙ (λ i. fitted (constraint_outputs prime (read_sheet ws)) (same.lengths i) []),
  laid_inside (groups_of ws (constraint_roots (read_sheet ws))) after r l,
)
