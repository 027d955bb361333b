-- What accepted expansions hand back: headers that stand inside their lists, and lists that fit their slices.
use mathlib.Core.Path.{◌≡◌, refl, subst}
use mathlib.Core.Bool.{Bool, true, false, cond}
use mathlib.Core.List.{List, [], ◌∷◌, ◌++◌, map}
use Prim.Native.Nat.{ℕ, zero, suc, ◌+◌, ◌*◌, ◌≤◌, ◌<◌}
use native.Mathlib.Omega.{arith}
use lib.Dec.{eqb, leb}
use lib.ListN.{length, get_or}
use borrow.Author.Tests.{eqb-true, leb-true}
use Rattle.semantics.specs.Answer.{Answer, and_then}
use Rattle.semantics.specs.Sheet.{Sheet}
use Rattle.semantics.specs.Walk.{order}
use Rattle.semantics.specs.Expand.{expand_all}
use Rattle.semantics.specs.Monomial.{list_at}
use Rattle.semantics.specs.Group.{Root, Item, Group, constraint_roots, count_roots, field_roots, constraint_term, interaction_term, groups, headers, variables, terms, layout}
use Rattle.semantics.specs.Call.{Outcome, Result, Accepted, outcome, needs, on_sheet, first_short, fitted, family, handed_back, expansion_of, expansion}
use Rattle.semantics.specs.Call.{constraint_outputs, constraint_call, interaction_outputs, interaction_numbers, interaction_call}
use Rattle.semantics.proofs.Basics.{by_test}
use Rattle.semantics.proofs.Demands.{Expanded, expanded}
use Rattle.semantics.proofs.Grouping.{constraint_wide, interaction_wide}
use Rattle.grouping.specs.declared.Family.{Family}
use Rattle.grouping.specs.declared.Family.TheVariants.{Constraints, Counts, Fields}
use Rattle.listing.specs.Families.{width_of, family_lines, HeadersInside}
use Rattle.listing.proofs.Layouts.{most_of, layout_inside, family_most}

-- An accepted reply has passed each step.
module _ (scratch lent : List ℕ) where
  needs_passed : (n needed had : ℕ) (rest : Answer Result) → (n ≡ 0 → ⊥) → Accepted (outcome scratch lent (needs n needed had rest)) → Accepted (outcome scratch lent rest)
  unfolding needs outcome
  needs_passed n needed had rest h =
      by_test (λ (a : Answer Result). Accepted (outcome scratch lent a) → Accepted (outcome scratch lent rest)) (leb needed had) (λ e a. a) (λ e a. absurd (h a))

  fitted_passed : (outputs : List (List ℕ)) (numbers : List ℕ) → Accepted (outcome scratch lent (fitted outputs lent numbers)) → first_short 1 outputs lent ≡ 0
  unfolding fitted outcome
  fitted_passed outputs numbers =
      by_test (λ (a : Answer Result). Accepted (outcome scratch lent a) → first_short 1 outputs lent ≡ 0) (eqb (first_short 1 outputs lent) 0)
      (λ e a. eqb-true (first_short 1 outputs lent) 0 e) (λ e a. absurd (omega arith))

-- Lists of which none is too long.
first_passed : (t : Bool) (r k : ℕ) → 0 < k → cond t r k ≡ 0 → (t ≡ true) × (r ≡ 0)
first_passed true r k z e = (refl, e)
first_passed false r k z e = absurd (omega arith)

short_fits : (k : ℕ) (ws : List (List ℕ)) (lent : List ℕ) (j : ℕ) → 0 < k → first_short k ws lent ≡ 0 → length ws ≤ length lent → j < length ws
    → length (get_or ws j []) ≤ get_or lent j 0
unfolding first_short
short_fits k [] lent j z e h l = absurd (omega arith)
short_fits k (w ∷ ws) [] j z e h l = absurd (omega arith)
short_fits k (w ∷ ws) (n ∷ ns) zero z e h l = leb-true (length w) n (first_passed (leb (length w) n) (first_short (suc k) ws ns) k z e).0
short_fits k (w ∷ ws) (n ∷ ns) (suc j) z e h l =
    short_fits (suc k) ws ns j (omega arith) (first_passed (leb (length w) n) (first_short (suc k) ws ns) k z e).1 (omega arith) (omega arith)

-- An accepted expansion hands back outputs that fit.
module _ (p : ℕ) (ws : List ℕ) (work pool : ℕ) (lent : List ℕ) (roots : Sheet → List Root) (outputs : Sheet → List (List ℕ)) (numbers : Sheet → List ℕ)
    (room : (s : Sheet) → length (outputs s) ≤ length lent)
    (a : Accepted (expansion p ws (work ∷ pool ∷ lent) (expansion_of p (work ∷ pool ∷ lent) roots outputs numbers))) where
  abbrev known : Expanded p ws pool roots outputs (expansion p ws (work ∷ pool ∷ lent) (expansion_of p (work ∷ pool ∷ lent) roots outputs numbers))
  known = expanded p ws work pool lent roots outputs numbers room a

  abbrev walked_on : Sheet → Answer Result
  walked_on s = and_then (expand_all p s.records pool (order s.records (map (λ (r : Root). r.node) (roots s)))) (λ used. fitted (outputs s) lent (numbers s))

  abbrev checked_on : Sheet → Answer Result
  checked_on s = needs 14 4096 work (needs 14 (2 * length s.records) pool (walked_on s))

  none_short : first_short 1 (outputs known.sheet) lent ≡ 0
  unfolding expansion expansion_of on_sheet and_then
  none_short =
      let s : Sheet = known.sheet in
      let sc : List ℕ = work ∷ pool ∷ [] in
      let b : Accepted (outcome sc lent (checked_on s)) = subst (λ (x : Answer Sheet). Accepted (outcome sc lent (and_then x checked_on))) known.checked a in
      let c : Accepted (outcome sc lent (walked_on s)) =
      needs_passed sc lent 14 (2 * length s.records) pool (walked_on s) (omega arith) (needs_passed sc lent 14 4096 work _ (omega arith) b) in
      fitted_passed sc lent (outputs s) (numbers s) (subst (λ (w : Answer ℕ). Accepted (outcome sc lent (and_then w (λ used. fitted (outputs s) lent (numbers s))))) known.walked c)

  output_fits : (j : ℕ) → j < length (outputs known.sheet) → length (get_or (outputs known.sheet) j []) ≤ get_or lent j 0
  output_fits j l = short_fits 1 (outputs known.sheet) lent j (omega arith) none_short (room known.sheet) l

-- The three lists of a family: each header stands inside, and the bytes that they take.
pub record Handed (family : Family) (hs vs ts : List ℕ) (h v t : ℕ) : Type 0 where
  pub inside : HeadersInside (width_of family) hs vs ts
  pub most : length (family_lines family hs vs ts) ≤ 2 * h + 9 * v + most_of family * t

handed : (family : Family) (term : Item → List ℕ) → ((t : Item) → length (term t) ≡ width_of family) → (gs : List Group) (hs vs ts : List ℕ) (h v t : ℕ)
    → hs ≡ headers 0 0 gs → vs ≡ variables gs → ts ≡ terms term gs → length (headers 0 0 gs) ≤ 4 * h → length (variables gs) ≤ v → length (terms term gs) ≤ width_of family * t
    → Handed family hs vs ts h v t
handed family term wide gs hs vs ts h v t e f g a b c =
    rw (e, f, g) (record { inside = layout_inside term (width_of family) wide gs; most = family_most family term wide gs h v t a b c })

module _ (p : ℕ) (ws : List ℕ) (work pool : ℕ) where
  -- Constraints, for slices of at most 4 h, v and 2 t words.
  module _ (hs-lent v ts-lent h t : ℕ) (few : hs-lent ≤ 4 * h) (less : ts-lent ≤ 2 * t)
      (a : Accepted (constraint_call p ws (work ∷ pool ∷ hs-lent ∷ v ∷ ts-lent ∷ []))) where
    abbrev constraint_call_lem : Outcome
    constraint_call_lem = constraint_call p ws (work ∷ pool ∷ hs-lent ∷ v ∷ ts-lent ∷ [])

    pub constraints_handed : Handed Constraints (handed_back 2 constraint_call_lem 0) (handed_back 2 constraint_call_lem 1) (handed_back 2 constraint_call_lem 2) h v t
    unfolding constraint_call constraint_outputs family layout
    constraints_handed =
        let lent : List ℕ = hs-lent ∷ v ∷ ts-lent ∷ [] in
        let room : (s : Sheet) → length (constraint_outputs p s) ≤ length lent = λ s. omega arith in
        let x = known p ws work pool lent constraint_roots (constraint_outputs p) (λ s. []) room a in
        let fits = output_fits p ws work pool lent constraint_roots (constraint_outputs p) (λ s. []) room a in
        handed Constraints constraint_term constraint_wide (groups (list_at p x.sheet.records) (constraint_roots x.sheet)) _ _ _ h v t
        (x.words 0) (x.words 1) (x.words 2) (omega (arith, fits 0 (omega arith))) (fits 1 (omega arith)) (omega (arith, fits 2 (omega arith)))

  -- Counts and denominators, for slices of at most 4 h, v and 3 t words each.
  module _ (hs-lent v ts-lent h t : ℕ) (few : hs-lent ≤ 4 * h) (less : ts-lent ≤ 3 * t)
      (a : Accepted (interaction_call p ws (work ∷ pool ∷ hs-lent ∷ v ∷ ts-lent ∷ hs-lent ∷ v ∷ ts-lent ∷ []))) where
    abbrev call : Outcome
    call = interaction_call p ws (work ∷ pool ∷ hs-lent ∷ v ∷ ts-lent ∷ hs-lent ∷ v ∷ ts-lent ∷ [])

    abbrev lent : List ℕ
    lent = hs-lent ∷ v ∷ ts-lent ∷ hs-lent ∷ v ∷ ts-lent ∷ []

    abbrev all_roots : Sheet → List Root
    all_roots s = count_roots s ++ field_roots s

    six : (s : Sheet) → length (interaction_outputs p s) ≡ 6
    unfolding interaction_outputs family layout
    six s = refl

    enough : (s : Sheet) → length (interaction_outputs p s) ≤ length lent
    enough s = omega (arith, six s)

    told : Expanded p ws pool all_roots (interaction_outputs p) call
    unfolding interaction_call
    told = known p ws work pool lent all_roots (interaction_outputs p) interaction_numbers enough a

    told_fits : (j : ℕ) → j < 6 → length (get_or (interaction_outputs p told.sheet) j []) ≤ get_or lent j 0
    unfolding interaction_call told
    told_fits j l = output_fits p ws work pool lent all_roots (interaction_outputs p) interaction_numbers enough a j (omega (arith, six told.sheet))

    pub numerators_handed : Handed Counts (handed_back 2 call 0) (handed_back 2 call 1) (handed_back 2 call 2) h v t
    unfolding interaction_outputs family layout
    numerators_handed =
        handed Counts interaction_term interaction_wide (groups (list_at p told.sheet.records) (count_roots told.sheet)) _ _ _ h v t
        (told.words 0) (told.words 1) (told.words 2) (omega (arith, told_fits 0 (omega arith))) (told_fits 1 (omega arith)) (omega (arith, told_fits 2 (omega arith)))

    pub denominators_handed : Handed Fields (handed_back 2 call 3) (handed_back 2 call 4) (handed_back 2 call 5) h v t
    unfolding interaction_outputs family layout
    denominators_handed =
        handed Fields interaction_term interaction_wide (groups (list_at p told.sheet.records) (field_roots told.sheet)) _ _ _ h v t
        (told.words 3) (told.words 4) (told.words 5) (omega (arith, told_fits 3 (omega arith))) (told_fits 4 (omega arith)) (omega (arith, told_fits 5 (omega arith)))
