-- Combined lists: their value, that they ascend strictly with no coefficient 0, and what they keep.
use mathlib.Core.Path.{◌≡◌, refl}
use mathlib.Core.Bool.{true}
use mathlib.Core.List.{List, [], ◌∷◌}
use Prim.Native.Nat.{ℕ, ◌<◌}
use lib.Dec.{eqb}
use borrow.Author.Tests.{eqb-true, eqb-false}
use Rattle.semantics.specs.Arithmetic.{add_m}
use Rattle.semantics.specs.Monomial.{BeforeVars, Asc, Monomial, before_vars, keep, plus, insert_monomial, combine}
use Rattle.semantics.specs.Lists.{All}
use Rattle.semantics.proofs.Basics.{by_test}
use Rattle.semantics.proofs.Arithmetic.{add_m_lt, zero_add_m, zero_mul_m, add_m_mul_m, sums}
use Rattle.semantics.proofs.Order.{before_vars_trans, before_vars_total}
use Rattle.semantics.proofs.Sorting.{all_imply}
use Rattle.semantics.proofs.Monomials.{one, val, val_cons, val_one, val_lt}

-- Every monomial of a list stands after `v`.
abbrev pub Above : List ℕ → List Monomial → Type 0
Above v ms = All (λ (m : Monomial). BeforeVars v m.vars) ms

-- What holds of an insertion, by the three cases of its first step.
pub by_order : (P : List Monomial → Type 0) (p : ℕ) (m x : Monomial) (xs : List Monomial)
    → (before_vars m.vars x.vars ≡ true → P (keep m (x ∷ xs)))
    → (before_vars x.vars m.vars ≡ true → P (x ∷ insert_monomial p m xs))
    → (m.vars ≡ x.vars → P (keep (plus p m x) xs))
    → P (insert_monomial p m (x ∷ xs))
unfolding insert_monomial
by_order P p m x xs f g h =
    by_test P (before_vars m.vars x.vars) f
    (λ e. by_test P (before_vars x.vars m.vars) g (λ k. h (before_vars_total m.vars x.vars e k)))

module _ (p : ℕ) (big : 1 < p) (w : List ℕ → ℕ) where
  pub val_keep : (m : Monomial) (xs : List Monomial) → val p w (keep m xs) ≡ add_m p (one p w m) (val p w xs)
  unfolding keep
  val_keep m xs =
      by_test (λ (l : List Monomial). val p w l ≡ add_m p (one p w m) (val p w xs)) (eqb m.coef 0)
      (λ e. simp (val_one, eqb-true m.coef 0 e, zero_mul_m, zero_add_m, val_lt)) (λ e. val_cons p w m xs)

  pub val_plus : (m n : Monomial) → m.vars ≡ n.vars → one p w (plus p m n) ≡ add_m p (one p w m) (one p w n)
  unfolding plus
  val_plus m n e = simp (val_one, e, add_m_mul_m)

  pub val_insert : (m : Monomial) (xs : List Monomial) → val p w (insert_monomial p m xs) ≡ add_m p (one p w m) (val p w xs)
  val_insert m [] = unfold insert_monomial in (val_keep m [])
  val_insert m (x ∷ t) =
      let ih = val_insert m t in
      by_order (λ (l : List Monomial). val p w l ≡ add_m p (one p w m) (val p w (x ∷ t))) p m x t
      (λ e. val_keep m (x ∷ t))
      (λ e. simp (val_cons, ih, sums))
      (λ e. simp (val_keep, val_plus m x e, val_cons, sums))

  pub val_combine : (xs : List Monomial) → val p w (combine p xs) ≡ val p w xs
  unfolding combine
  val_combine [] = refl
  val_combine (x ∷ t) = let ih = val_combine t in simp (val_insert, val_cons, ih)

-- A list has no coefficient 0.
abbrev pub NoZero : List Monomial → Type 0
NoZero [] = Unit {0}
NoZero (x ∷ xs) = (x.coef ≡ 0 → ⊥) × NoZero xs

pub above_trans : (u v : List ℕ) (xs : List Monomial) → before_vars u v ≡ true → Above v xs → Above u xs
above_trans u v xs h =
    all_imply (λ (x : Monomial). before_vars v x.vars ≡ true) (λ (x : Monomial). before_vars u x.vars ≡ true)
    (λ x. before_vars_trans u v x.vars h) xs

pub above_keep : (v : List ℕ) (m : Monomial) (xs : List Monomial) → before_vars v m.vars ≡ true → Above v xs → Above v (keep m xs)
unfolding keep
above_keep v m xs h k = by_test (Above v) (eqb m.coef 0) (λ e. k) (λ e. (h, k))

pub asc_keep : (m : Monomial) (xs : List Monomial) → Above m.vars xs → Asc xs → Asc (keep m xs)
unfolding keep
asc_keep m xs h k = by_test Asc (eqb m.coef 0) (λ e. k) (λ e. (h, k))

pub nz_keep : (m : Monomial) (xs : List Monomial) → NoZero xs → NoZero (keep m xs)
unfolding keep
nz_keep m xs k = by_test NoZero (eqb m.coef 0) (λ e. k) (λ e. (eqb-false m.coef 0 e, k))

pub above_insert : (p : ℕ) (v : List ℕ) (m : Monomial) (xs : List Monomial) → before_vars v m.vars ≡ true → Above v xs → Above v (insert_monomial p m xs)
unfolding plus
above_insert p v m [] h = λ k. unfold insert_monomial in (above_keep v m [] h k)
above_insert p v m (x ∷ t) h =
    let ih = above_insert p v m t h in
    λ k. by_order (Above v) p m x t
    (λ e. above_keep v m (x ∷ t) h k)
    (λ e. (k.0, ih k.1))
    (λ e. above_keep v (plus p m x) t k.0 k.1)

pub asc_insert : (p : ℕ) (m : Monomial) (xs : List Monomial) → Asc xs → Asc (insert_monomial p m xs)
unfolding plus
asc_insert p m [] = λ k. unfold insert_monomial in (asc_keep m [] tt tt)
asc_insert p m (x ∷ t) =
    let ih = asc_insert p m t in
    λ k. by_order Asc p m x t
    (λ e. asc_keep m (x ∷ t) (e, above_trans m.vars x.vars t e k.0) k)
    (λ e. (above_insert p x.vars m t e k.0, ih k.1))
    (λ e. asc_keep (plus p m x) t k.0 k.1)

pub nz_insert : (p : ℕ) (m : Monomial) (xs : List Monomial) → NoZero xs → NoZero (insert_monomial p m xs)
nz_insert p m [] = λ k. unfold insert_monomial in (nz_keep m [] k)
nz_insert p m (x ∷ t) =
    let ih = nz_insert p m t in
    λ k. by_order NoZero p m x t
    (λ e. nz_keep m (x ∷ t) k)
    (λ e. (k.0, ih k.1))
    (λ e. nz_keep (plus p m x) t k.1)

pub asc_combine : (p : ℕ) (xs : List Monomial) → Asc (combine p xs)
unfolding combine
asc_combine p [] = tt
asc_combine p (x ∷ xs) = asc_insert p x (combine p xs) (asc_combine p xs)

pub nz_combine : (p : ℕ) (xs : List Monomial) → NoZero (combine p xs)
unfolding combine
nz_combine p [] = tt
nz_combine p (x ∷ xs) = nz_insert p x (combine p xs) (nz_combine p xs)

-- A coefficient below p.
abbrev pub Small : ℕ → Monomial → Type 0
Small p m = m.coef < p

-- What is kept by a sum of two monomials is kept by summing into a list.
module _ (p : ℕ) (P : Monomial → Type 0) (both : (m x : Monomial) → P m → P x → P (plus p m x)) where
  pub all_keep : (m : Monomial) (xs : List Monomial) → P m → All P xs → All P (keep m xs)
  unfolding keep
  all_keep m xs h k = by_test (All P) (eqb m.coef 0) (λ e. k) (λ e. (h, k))

  pub all_insert : (m : Monomial) (xs : List Monomial) → P m → All P xs → All P (insert_monomial p m xs)
  all_insert m [] h = λ k. unfold insert_monomial in (all_keep m [] h k)
  all_insert m (x ∷ t) h =
      let ih = all_insert m t h in
      λ k. by_order (All P) p m x t
      (λ e. all_keep m (x ∷ t) h k)
      (λ e. (k.0, ih k.1))
      (λ e. all_keep (plus p m x) t (both m x h k.0) k.1)

  pub all_combine : (xs : List Monomial) → All P xs → All P (combine p xs)
  unfolding combine
  all_combine [] k = tt
  all_combine (x ∷ xs) k = all_insert x (combine p xs) k.0 (all_combine xs k.1)

pub small_plus : (p : ℕ) → 1 < p → (m x : Monomial) → Small p m → Small p x → Small p (plus p m x)
unfolding plus
small_plus p big m x h k = add_m_lt p big m.coef x.coef
