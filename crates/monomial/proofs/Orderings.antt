-- The order of two variable lists, found number by number.
use mathlib.Core.Path.{◌≡◌, refl, subst, ◌∙◌}
use mathlib.Core.Bool.{Bool, true, false}
use mathlib.Core.List.{List, ◌∷◌}
use Prim.Native.Nat.{ℕ, ◌<◌}
use native.Mathlib.Omega.{arith}
use lib.ListN.{length}
use Rattle.std.proofs.lemmas.Bool.Decides.{nat_tests}
use Rattle.std.proofs.lemmas.Cmp.{ranked, same_from_slice_cmp}
use Rattle.std.specs.Cmp.Lexicographic.{slice_cmp}
use Rattle.std.specs.Ordering.{MatchOrdering, nat_cmp, is_lt, is_gt, ordering_then}
use Rattle.std.specs.declared.cmp.Ordering.{Ordering}
use Rattle.std.specs.declared.cmp.Ordering.TheVariants.{Less, Equal, Greater}
use Rattle.semantics.specs.Monomial.{before, before_vars}
use Rattle.semantics.proofs.Order.{before_vars_total}
use Rattle.monomial.specs.Orders.{chosen, order_of}

-- What std's order of lists of numbers says of "number by number".
before_is : (xs ys : List ℕ) (o : Ordering) → o ≡ slice_cmp nat_cmp xs ys → is_lt o ≡ before xs ys
unfolding before
before_is = same_from_slice_cmp nat_cmp is_lt before refl (λ _ _. refl) (λ _ _. refl) (λ x y xs ys o h. grind (arith, nat_tests))

after_is : (xs ys : List ℕ) (o : Ordering) → o ≡ slice_cmp nat_cmp xs ys → is_gt o ≡ before ys xs
unfolding before
after_is = same_from_slice_cmp nat_cmp is_gt (λ xs ys. before ys xs) refl (λ _ _. refl) (λ _ _. refl) (λ x y xs ys o h. grind (arith, nat_tests))

told : (o : Ordering) → o ≡ chosen (is_lt o) Less (chosen (is_gt o) Greater Equal)
told Less = refl
told Equal = refl
told Greater = refl

-- What comes after an order decides only where that says equal.
pub decided : (o p : Ordering) → (o ≡ Equal → ⊥) → o ≡ ordering_then o p
decided Less p n = refl
decided Equal p n = absurd (n refl)
decided Greater p n = refl

-- Numbers that compare as equal are equal.
pub equal_is : (x y : ℕ) {o : Ordering} → o ≡ nat_cmp x y → o ≡ Equal → x ≡ y
equal_is x y {o} e q = subst (λ (p : Ordering). MatchOrdering p (x < y) (x ≡ y) (y < x)) q (ranked x y o e)

-- std's order of the lists with their lengths in front.
pub order_is : (xs ys : List ℕ) (o : Ordering) → o ≡ slice_cmp nat_cmp (length xs ∷ xs) (length ys ∷ ys) → o ≡ order_of xs ys
unfolding order_of before_vars
order_is xs ys o e =
    told o ∙ λ i. chosen (before_is (length xs ∷ xs) (length ys ∷ ys) o e i) Less (chosen (after_is (length xs ∷ xs) (length ys ∷ ys) o e i) Greater Equal)

-- What is known of the lists, by the answer.
module _ (xs ys : List ℕ) where
  pub from_less : order_of xs ys ≡ Less → before_vars xs ys ≡ true
  unfolding order_of
  from_less = go (before_vars xs ys) (before_vars ys xs)
    where
      go : (s t : Bool) → chosen s Less (chosen t Greater Equal) ≡ Less → s ≡ true
      go true t e = refl
      go false true e = let z : ◌≡◌ {A = ℕ} 0 1 = cc in absurd (omega arith)
      go false false e = let z : ◌≡◌ {A = ℕ} 0 1 = cc in absurd (omega arith)

  pub from_greater : order_of xs ys ≡ Greater → before_vars ys xs ≡ true
  unfolding order_of
  from_greater = go (before_vars xs ys) (before_vars ys xs)
    where
      go : (s t : Bool) → chosen s Less (chosen t Greater Equal) ≡ Greater → t ≡ true
      go true t e = let z : ◌≡◌ {A = ℕ} 0 1 = cc in absurd (omega arith)
      go false true e = refl
      go false false e = let z : ◌≡◌ {A = ℕ} 0 1 = cc in absurd (omega arith)

  pub from_equal : order_of xs ys ≡ Equal → xs ≡ ys
  unfolding order_of
  from_equal e = before_vars_total xs ys (go (before_vars xs ys) (before_vars ys xs) e).0 (go (before_vars xs ys) (before_vars ys xs) e).1
    where
      go : (s t : Bool) → chosen s Less (chosen t Greater Equal) ≡ Equal → (s ≡ false) × (t ≡ false)
      go true t e = let z : ◌≡◌ {A = ℕ} 0 1 = cc in absurd (omega arith)
      go false true e = let z : ◌≡◌ {A = ℕ} 0 1 = cc in absurd (omega arith)
      go false false e = (refl, refl)
