-- The order of lists of numbers is strict and total, and so is that of variable lists.
use mathlib.Core.Path.{◌≡◌, refl, sym, ◌∙◌}
use mathlib.Core.Logic.{◌⊎◌, inl, inr}
use mathlib.Core.Bool.{Bool, true, false, cond, true≢false}
use mathlib.Core.List.{List, [], ◌∷◌}
use Prim.Native.Nat.{ℕ, ◌<◌}
use native.Mathlib.Omega.{arith}
use lib.Dec.{ltb}
use borrow.Author.Tests.{ltb-true, ltb-false, lt-ltb, le-ltb}
use Rattle.semantics.specs.Monomial.{before, before_vars}
use Rattle.semantics.proofs.Basics.{by_test}

-- Two lists of one or more numbers: the first number decides, or, where it is the same, the rest.
pub lex_inv : (x y : ℕ) (xs ys : List ℕ) → before (x ∷ xs) (y ∷ ys) ≡ true → (x < y) ⊎ ((x ≡ y) × (before xs ys ≡ true))
unfolding before
lex_inv x y xs ys =
    by_test (λ (t : Bool). t ≡ true → (x < y) ⊎ ((x ≡ y) × (before xs ys ≡ true))) (ltb x y) (λ e h. inl (ltb-true x y e))
    (λ e. by_test (λ (t : Bool). t ≡ true → (x < y) ⊎ ((x ≡ y) × (before xs ys ≡ true))) (ltb y x) (λ f h. absurd (true≢false (sym h)))
    (λ f h. inr (omega (arith, ltb-false x y e, ltb-false y x f), h)))

pub lex_head : (x y : ℕ) (xs ys : List ℕ) → x < y → before (x ∷ xs) (y ∷ ys) ≡ true
unfolding before
lex_head x y xs ys h = rw (lt-ltb x y h, before)

pub lex_tail : (x y : ℕ) (xs ys : List ℕ) → x ≡ y → before xs ys ≡ true → before (x ∷ xs) (y ∷ ys) ≡ true
unfolding before
lex_tail x y xs ys e h = rw (le-ltb x y (omega arith), le-ltb y x (omega arith)) h

pub lex_irrefl : (xs : List ℕ) → before xs xs ≡ false
unfolding before
lex_irrefl [] = refl
lex_irrefl (x ∷ xs) = rw (le-ltb x x (omega arith)) (lex_irrefl xs)

pub lex_trans : (xs ys zs : List ℕ) → before xs ys ≡ true → before ys zs ≡ true → before xs zs ≡ true
lex_trans [] [] zs h k = unfold before in (absurd (true≢false (sym h)))
lex_trans [] (y ∷ ys) [] h k = unfold before in (absurd (true≢false (sym k)))
lex_trans [] (y ∷ ys) (z ∷ zs) h k = unfold before in refl
lex_trans (x ∷ xs) [] zs h k = unfold before in (absurd (true≢false (sym h)))
lex_trans (x ∷ xs) (y ∷ ys) [] h k = unfold before in (absurd (true≢false (sym k)))
lex_trans (x ∷ xs) (y ∷ ys) (z ∷ zs) h k = go (lex_inv x y xs ys h) (lex_inv y z ys zs k) (lex_trans xs ys zs)
  where
    go : (x < y) ⊎ ((x ≡ y) × (before xs ys ≡ true)) → (y < z) ⊎ ((y ≡ z) × (before ys zs ≡ true))
        → (before xs ys ≡ true → before ys zs ≡ true → before xs zs ≡ true) → before (x ∷ xs) (z ∷ zs) ≡ true
    go (inl a) (inl b) ih = lex_head x z xs zs (omega arith)
    go (inl a) (inr b) ih = lex_head x z xs zs (omega arith)
    go (inr a) (inl b) ih = lex_head x z xs zs (omega arith)
    go (inr a) (inr b) ih = lex_tail x z xs zs (omega arith) (ih a.1 b.1)

-- Neither before the other: the same.
pub lex_not : (x y : ℕ) (xs ys : List ℕ) → before (x ∷ xs) (y ∷ ys) ≡ false → (y < x) ⊎ ((x ≡ y) × (before xs ys ≡ false))
unfolding before
lex_not x y xs ys =
    by_test (λ (t : Bool). t ≡ false → (y < x) ⊎ ((x ≡ y) × (before xs ys ≡ false))) (ltb x y) (λ e h. absurd (true≢false h))
    (λ e. by_test (λ (t : Bool). t ≡ false → (y < x) ⊎ ((x ≡ y) × (before xs ys ≡ false))) (ltb y x) (λ f h. inl (ltb-true y x f))
    (λ f h. inr (omega (arith, ltb-false x y e, ltb-false y x f), h)))

pub lex_total : (xs ys : List ℕ) → before xs ys ≡ false → before ys xs ≡ false → xs ≡ ys
lex_total [] [] h k = refl
lex_total [] (y ∷ ys) h k = unfold before in (absurd (true≢false h))
lex_total (x ∷ xs) [] h k = unfold before in (absurd (true≢false k))
lex_total (x ∷ xs) (y ∷ ys) h k = go (lex_not x y xs ys h) (lex_not y x ys xs k) (lex_total xs ys)
  where
    go : (y < x) ⊎ ((x ≡ y) × (before xs ys ≡ false)) → (x < y) ⊎ ((y ≡ x) × (before ys xs ≡ false))
        → (before xs ys ≡ false → before ys xs ≡ false → xs ≡ ys) → x ∷ xs ≡ y ∷ ys
    go (inl a) (inl b) ih = absurd (omega arith)
    go (inl a) (inr b) ih = absurd (omega arith)
    go (inr a) (inl b) ih = absurd (omega arith)
    go (inr a) (inr b) ih = let t = ih a.1 b.1 in cc

pub before_vars_irrefl : (xs : List ℕ) → before_vars xs xs ≡ false
unfolding before_vars
before_vars_irrefl xs = lex_irrefl _

pub before_vars_trans : (xs ys zs : List ℕ) → before_vars xs ys ≡ true → before_vars ys zs ≡ true → before_vars xs zs ≡ true
unfolding before_vars
before_vars_trans xs ys zs = lex_trans _ _ _

pub before_vars_total : (xs ys : List ℕ) → before_vars xs ys ≡ false → before_vars ys xs ≡ false → xs ≡ ys
unfolding before_vars
before_vars_total xs ys h k = let e = lex_total _ _ h k in cc

pub before_vars_asym : (xs ys : List ℕ) → before_vars xs ys ≡ true → before_vars ys xs ≡ false
before_vars_asym xs ys h = by_flag (before_vars ys xs) refl
  where
    by_flag : (t : Bool) → before_vars ys xs ≡ t → before_vars ys xs ≡ false
    by_flag false e = e
    by_flag true e = absurd (true≢false (sym (before_vars_trans xs ys xs h e) ∙ before_vars_irrefl xs))

-- Of two variable lists, whether they are the same, by their order.
unfoldable pub same_vars : List ℕ → List ℕ → Bool
same_vars v u = cond (before_vars v u) false (cond (before_vars u v) false true)

pub same_vars_lem : (v : List ℕ) → same_vars v v ≡ true
unfolding same_vars
same_vars_lem v = rw (before_vars_irrefl v)

pub same_not : (v u : List ℕ) → before_vars v u ≡ true → same_vars v u ≡ false
unfolding same_vars
same_not v u h = rw h

pub same_is : (v u : List ℕ) → same_vars v u ≡ true → v ≡ u
unfolding same_vars
same_is v u =
    by_test (λ (t : Bool). t ≡ true → v ≡ u) (before_vars v u) (λ e h. absurd (true≢false (sym h)))
    (λ e. by_test (λ (t : Bool). t ≡ true → v ≡ u) (before_vars u v) (λ f h. absurd (true≢false (sym h))) (λ f h. before_vars_total v u e f))
