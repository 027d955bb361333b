-- Choices by a test, and tests as facts.
use mathlib.Core.Path.{◌≡◌, refl, sym, ◌∙◌}
use mathlib.Core.Logic.{◌⊎◌, inl, inr}
use mathlib.Core.Bool.{Bool, true, false, cond, true≢false, ◌&&◌, ◌||◌}
use native.Mathlib.Omega.{arith}
use borrow.Author.Tests.{ltb-true, ltb-false, leb-true, leb-false, eqb-true, lt-ltb, le-ltb, le-leb, lt-leb, eq-eqb}

-- A choice, by what its test says.
pub by_test {ℓ κ} : {X : Type ℓ} (P : X → Type κ) (t : Bool) {x y : X} → (t ≡ true → P x) → (t ≡ false → P y) → P (cond t x y)
by_test P true f g = f refl
by_test P false f g = g refl

pub and_true : (s t : Bool) → s && t ≡ true → (s ≡ true) × (t ≡ true)
and_true true t e = (refl, e)
and_true false t e = absurd (true≢false (sym e))

pub true_and : (s t : Bool) → s ≡ true → t ≡ true → s && t ≡ true
true_and true t d e = e
true_and false t d e = d

pub or_true : (s t : Bool) → s || t ≡ true → (s ≡ true) ⊎ (t ≡ true)
or_true true t e = inl refl
or_true false t e = inr e

pub not_both {ℓ} : {X : Type ℓ} {t : Bool} → t ≡ true → t ≡ false → X
not_both h k = absurd (true≢false (sym h ∙ k))

-- A choice that is known.
pub cond_true {ℓ} : {X : Type ℓ} (t : Bool) (x y : X) → t ≡ true → cond t x y ≡ x
cond_true true x y e = refl
cond_true false x y e = absurd (true≢false (sym e))

pub cond_false {ℓ} : {X : Type ℓ} (t : Bool) (x y : X) → t ≡ false → cond t x y ≡ y
cond_false true x y e = absurd (true≢false e)
cond_false false x y e = refl

-- For omega: tests as facts, and facts as tests.
pub ruleset tests = (arith, ltb-true, ltb-false, leb-true, leb-false, eqb-true)

pub ruleset decided = (arith, lt-ltb, le-ltb, le-leb, lt-leb, eq-eqb, ltb-true, ltb-false, leb-true, leb-false)
