-- The monomials of a list that are kept: their places one by one, and what is counted and placed of them.
use mathlib.Core.Path.{◌≡◌, refl, sym, ◌∙◌, ap, subst}
use mathlib.Core.Bool.{Bool, true, false, cond}
use mathlib.Core.List.{List, [], ◌∷◌, map}
use Prim.Native.Nat.{ℕ, zero, suc, ◌+◌, ◌-◌, ◌≤◌, ◌<◌}
use native.Mathlib.Omega.{arith}
use lib.Dec.{eqb}
use lib.ListN.{length, get_or}
use borrow.Author.Tests.{eq-eqb, ne_eqb}
use Rattle.semantics.specs.Group.{Item, items_of}
use Rattle.semantics.specs.Lists.{All}
use Rattle.semantics.proofs.Basics.{by_test, cond_true, cond_false}
use Rattle.monomial.specs.Words.{read_list, list_in}
use Rattle.monomial.proofs.ListLaws.{list_in_suc}
use Rattle.group.specs.declared.place.Label.{Label}
use Rattle.group.specs.Grouped.{kept_places, non_zero, monomial_in, Standing, item_at, items_at}
use Rattle.group.specs.Waiting.{PlaceInside, pool_vars}
use Rattle.group.proofs.PoolLists.{read_coef}

pub kept_none : (P : List ℕ) (at n : ℕ) → n ≤ 0 → kept_places P at n ≡ []
unfolding kept_places
kept_none P at zero h = refl
kept_none P at (suc n) h = absurd (omega arith)

-- The first of some monomials, and those behind it.
module _ (P : List ℕ) (at n : ℕ) (h : 0 < n) where
  abbrev next : ℕ
  next = at + 2 + get_or P at 0

  pub first_stands : Standing n P at → PlaceInside P at × Standing (n - 1) P next
  first_stands s =
      let e : n ≡ suc (n - 1) = omega arith in
      let t = subst (λ (m : ℕ). Standing m P at) e s in
      ((t.0, t.1, t.2), t.3)

  kept_suc : kept_places P at n ≡ cond (eqb (get_or P (at + 1) 0) 0) (kept_places P next (n - 1)) (at ∷ kept_places P next (n - 1))
  unfolding kept_places
  kept_suc = let e : n ≡ suc (n - 1) = omega arith in ap (kept_places P at) e

  pub first_left_out : get_or P (at + 1) 0 ≡ 0 → kept_places P at n ≡ kept_places P next (n - 1)
  first_left_out z = kept_suc ∙ cond_true (eqb (get_or P (at + 1) 0) 0) _ _ (eq-eqb (get_or P (at + 1) 0) 0 z)

  pub first_kept : (get_or P (at + 1) 0 ≡ 0 → ⊥) → kept_places P at n ≡ at ∷ kept_places P next (n - 1)
  first_kept z = kept_suc ∙ cond_false (eqb (get_or P (at + 1) 0) 0) _ _ (ne_eqb (get_or P (at + 1) 0) 0 z)

pub kept_inside : (P : List ℕ) (at n : ℕ) → Standing n P at → All (PlaceInside P) (kept_places P at n)
unfolding kept_places
kept_inside P at zero s = tt
kept_inside P at (suc n) s =
    let ih = kept_inside P (at + 2 + get_or P at 0) n s.3 in
    by_test (All (PlaceInside P)) (eqb (get_or P (at + 1) 0) 0) (λ e. ih) (λ e. ((s.0, s.1, s.2), ih))

pub kept_few : (P : List ℕ) (at n : ℕ) → length (kept_places P at n) ≤ n
unfolding kept_places
kept_few P at zero = omega arith
kept_few P at (suc n) =
    let ih = kept_few P (at + 2 + get_or P at 0) n in
    by_test (λ (l : List ℕ). length l ≤ suc n) (eqb (get_or P (at + 1) 0) 0) (λ e. omega arith) (λ e. omega arith)

-- Their variables are those that are counted.
pub kept_vars : (P : List ℕ) (at n : ℕ) → map (pool_vars P) (kept_places P at n) ≡ non_zero (list_in P at n)
unfolding kept_places non_zero read_list
kept_vars P at zero = refl
kept_vars P at (suc n) =
    let next : ℕ = at + 2 + get_or P at 0 in
    go (eqb (get_or P (at + 1) 0) 0) (kept_vars P next n)
    ∙ ap (λ (c : ℕ). cond (eqb c 0) (non_zero (list_in P next n)) (pool_vars P at ∷ non_zero (list_in P next n))) (sym (read_coef P at))
    ∙ ap non_zero (sym (list_in_suc P at n))
  where
    go : (b : Bool) → map (pool_vars P) (kept_places P (at + 2 + get_or P at 0) n) ≡ non_zero (list_in P (at + 2 + get_or P at 0) n)
        → map (pool_vars P) (cond b (kept_places P (at + 2 + get_or P at 0) n) (at ∷ kept_places P (at + 2 + get_or P at 0) n))
        ≡ cond b (non_zero (list_in P (at + 2 + get_or P at 0) n)) (pool_vars P at ∷ non_zero (list_in P (at + 2 + get_or P at 0) n))
    go true ih = ih
    go false ih = ap (λ (l : List (List ℕ)). pool_vars P at ∷ l) ih

-- Their items under a label are those of the list.
pub kept_items : (l : Label) (P : List ℕ) (at n : ℕ) → map (λ (i : ℕ). item_at l (monomial_in P i)) (kept_places P at n) ≡ items_at l (list_in P at n)
unfolding kept_places items_of read_list
kept_items l P at zero = refl
kept_items l P at (suc n) =
    let next : ℕ = at + 2 + get_or P at 0 in
    go (eqb (get_or P (at + 1) 0) 0) (kept_items l P next n)
    ∙ ap (λ (c : ℕ). cond (eqb c 0) (items_at l (list_in P next n)) (item_at l (monomial_in P at) ∷ items_at l (list_in P next n))) (sym (read_coef P at))
    ∙ ap (items_at l) (sym (list_in_suc P at n))
  where
    go : (b : Bool) → map (λ (i : ℕ). item_at l (monomial_in P i)) (kept_places P (at + 2 + get_or P at 0) n) ≡ items_at l (list_in P (at + 2 + get_or P at 0) n)
        → map (λ (i : ℕ). item_at l (monomial_in P i)) (cond b (kept_places P (at + 2 + get_or P at 0) n) (at ∷ kept_places P (at + 2 + get_or P at 0) n))
        ≡ cond b (items_at l (list_in P (at + 2 + get_or P at 0) n)) (item_at l (monomial_in P at) ∷ items_at l (list_in P (at + 2 + get_or P at 0) n))
    go true ih = ih
    go false ih = ap (λ (ts : List Item). item_at l (monomial_in P at) ∷ ts) ih
