-- The ring laws, for any modulus above 1 (where the modulus need not be above 1, for any).
use mathlib.Core.Path.{◌≡◌, sym, ◌∙◌, ap}
use Prim.Native.Nat.{ℕ, zero, suc, ◌+◌, ◌*◌, ◌-◌, ◌%◌, ◌/◌, ◌≤◌, ◌<◌}
use native.Mathlib.Omega.{arith}
use native.Mathlib.Nat.{zero-mod, mod-lt, mod-mod, mod-eq_of_lt, mod-add-mod, add-mod-mod, add-mul-mod_self_right, mul-mod_left, div-add-mod'}
use native.Mathlib.Numerals.{sub-one}
use Rattle.semantics.specs.Arithmetic.{add_m, sub_m, mul_m, neg_m}

pub mod_mul_mod : (a b p : ℕ) → (a % p * b) % p ≡ (a * b) % p
mod_mul_mod a b p =
    sym (ap (λ (x : ℕ). x % p) (omega (arith, ap (λ (x : ℕ). x * b) (div-add-mod' a p)))
    ∙ add-mul-mod_self_right (a % p * b) (a / p * b) p)

pub mul_mod_mod : (a b p : ℕ) → (a * (b % p)) % p ≡ (a * b) % p
mul_mod_mod a b p = ap (λ (x : ℕ). x % p) (omega arith) ∙ mod_mul_mod b a p ∙ ap (λ (x : ℕ). x % p) (omega arith)

-- What stands under a remainder, without the inner remainders.
pub ruleset mods = (mod-mod, mod-add-mod, add-mod-mod, mod_mul_mod, mul_mod_mod)

-- Two numbers that differ by multiples of p.
pub same_mod : (p a b k l : ℕ) → a + k * p ≡ b + l * p → a % p ≡ b % p
same_mod p a b k l e = sym (add-mul-mod_self_right a k p) ∙ ap (λ (x : ℕ). x % p) e ∙ add-mul-mod_self_right b l p

pub under : (p : ℕ) {a b : ℕ} → a ≡ b → a % p ≡ b % p
under p e = ap (λ (x : ℕ). x % p) e

module _ (p : ℕ) where
  pub add_m_comm : (a b : ℕ) → add_m p a b ≡ add_m p b a
  unfolding add_m
  add_m_comm a b = under p (omega arith)

  pub add_m_assoc : (a b c : ℕ) → add_m p (add_m p a b) c ≡ add_m p a (add_m p b c)
  unfolding add_m
  add_m_assoc a b c = simp mods (under p (omega arith))

  pub add_m_left_comm : (a b c : ℕ) → add_m p a (add_m p b c) ≡ add_m p b (add_m p a c)
  unfolding add_m
  add_m_left_comm a b c = simp mods (under p (omega arith))

  pub mul_m_comm : (a b : ℕ) → mul_m p a b ≡ mul_m p b a
  unfolding mul_m
  mul_m_comm a b = under p (omega arith)

  pub mul_m_assoc : (a b c : ℕ) → mul_m p (mul_m p a b) c ≡ mul_m p a (mul_m p b c)
  unfolding mul_m
  mul_m_assoc a b c = simp mods (under p (omega arith))

  pub mul_m_left_comm : (a b c : ℕ) → mul_m p a (mul_m p b c) ≡ mul_m p b (mul_m p a c)
  unfolding mul_m
  mul_m_left_comm a b c = simp mods (under p (omega arith))

  pub mul_m_add_m : (a b c : ℕ) → mul_m p a (add_m p b c) ≡ add_m p (mul_m p a b) (mul_m p a c)
  unfolding mul_m add_m
  mul_m_add_m a b c = simp mods (under p (omega arith))

  pub add_m_mul_m : (a b c : ℕ) → mul_m p (add_m p a b) c ≡ add_m p (mul_m p a c) (mul_m p b c)
  unfolding mul_m add_m
  add_m_mul_m a b c = simp mods (under p (omega arith))

-- The negative is a multiple: what follows is then a matter of sums and products.
neg_m_suc : (q r : ℕ) → r ≤ suc q → suc q - r + r * suc q ≡ q * r + 1 * suc q
neg_m_suc q r h = omega arith

pub neg_m_mul : (p : ℕ) → 1 < p → (a : ℕ) → neg_m p a ≡ ((p - 1) * a) % p
unfolding neg_m
neg_m_mul zero big a = absurd (omega arith)
neg_m_mul (suc q) big a =
    same_mod (suc q) (suc q - a % suc q) (q * (a % suc q)) (a % suc q) 1 (neg_m_suc q (a % suc q) (omega (arith, mod-lt a {m = suc q} (omega arith))))
    ∙ mul_mod_mod q a (suc q) ∙ under (suc q) (ap (λ (x : ℕ). x * a) (omega arith))

pub sub_m_add : (p a b : ℕ) → sub_m p a b ≡ add_m p a (neg_m p b)
unfolding sub_m add_m neg_m
sub_m_add p a b = simp mods

mul_pred : (p x : ℕ) → 1 < p → (p - 1) * x + x ≡ x * p
mul_pred zero x big = absurd (omega arith)
mul_pred (suc q) x big = simp sub-one (omega arith)

twice_pred : (p x : ℕ) → 1 < p → (p - 1) * ((p - 1) * x) + x * p ≡ x + (p - 1) * x * p
twice_pred zero x big = absurd (omega arith)
twice_pred (suc q) x big = simp sub-one (omega arith)

module _ (p : ℕ) (big : 1 < p) where
  pub add_m_neg_m : (a : ℕ) → add_m p a (neg_m p a) ≡ 0
  unfolding add_m
  add_m_neg_m a = simp (neg_m_mul p big, mods) (under p (omega (arith, mul_pred p a big)) ∙ mul-mod_left a p)

  pub neg_m_add_m : (a b : ℕ) → neg_m p (add_m p a b) ≡ add_m p (neg_m p a) (neg_m p b)
  unfolding add_m
  neg_m_add_m a b = simp (neg_m_mul p big, mods) (under p (omega arith))

  pub neg_m_mul_m : (a b : ℕ) → mul_m p (neg_m p a) b ≡ neg_m p (mul_m p a b)
  unfolding mul_m
  neg_m_mul_m a b = simp (neg_m_mul p big, mods) (under p (omega arith))

  pub mul_m_neg_m : (a b : ℕ) → mul_m p a (neg_m p b) ≡ neg_m p (mul_m p a b)
  unfolding mul_m
  mul_m_neg_m a b = simp (neg_m_mul p big, mods) (under p (omega arith))

  pub neg_m_neg_m : (a : ℕ) → neg_m p (neg_m p a) ≡ a % p
  neg_m_neg_m a = simp (neg_m_mul p big, mods) (same_mod p ((p - 1) * ((p - 1) * a)) a a ((p - 1) * a) (twice_pred p a big))

  -- Reduced values.
  pub add_m_lt : (a b : ℕ) → add_m p a b < p
  unfolding add_m
  add_m_lt a b = mod-lt (a + b) (omega arith)

  pub mul_m_lt : (a b : ℕ) → mul_m p a b < p
  unfolding mul_m
  mul_m_lt a b = mod-lt (a * b) (omega arith)

  pub neg_m_lt : (a : ℕ) → neg_m p a < p
  unfolding neg_m
  neg_m_lt a = mod-lt (p - a % p) (omega arith)

  pub sub_m_lt : (a b : ℕ) → sub_m p a b < p
  unfolding sub_m
  sub_m_lt a b = mod-lt (a + (p - b % p)) (omega arith)

  pub add_m_zero : (a : ℕ) → a < p → add_m p a 0 ≡ a
  unfolding add_m
  add_m_zero a h = under p (omega arith) ∙ mod-eq_of_lt h

  pub zero_add_m : (a : ℕ) → a < p → add_m p 0 a ≡ a
  unfolding add_m
  zero_add_m a h = under p (omega arith) ∙ mod-eq_of_lt h

  pub mul_m_one : (a : ℕ) → a < p → mul_m p a 1 ≡ a
  unfolding mul_m
  mul_m_one a h = under p (omega arith) ∙ mod-eq_of_lt h

  pub add_back : (a c : ℕ) → a < p → add_m p (add_m p a c) (neg_m p c) ≡ a
  add_back a c h = simp (add_m_assoc p, add_m_neg_m, add_m_zero)

  pub one_mul_m : (a : ℕ) → a < p → mul_m p 1 a ≡ a
  unfolding mul_m
  one_mul_m a h = under p (omega arith) ∙ mod-eq_of_lt h

  pub add_m_cancel : (a b c : ℕ) → a < p → b < p → add_m p a c ≡ add_m p b c → a ≡ b
  add_m_cancel a b c ha hb e = cc (add_back a c ha, add_back b c hb)

module _ (p : ℕ) where
  pub mul_m_zero : (a : ℕ) → mul_m p a 0 ≡ 0
  unfolding mul_m
  mul_m_zero a = under p (omega arith) ∙ zero-mod p

  pub zero_mul_m : (a : ℕ) → mul_m p 0 a ≡ 0
  unfolding mul_m
  zero_mul_m a = under p (omega arith) ∙ zero-mod p

pub neg_m_zero : (p : ℕ) → 1 < p → neg_m p 0 ≡ 0
neg_m_zero p big = neg_m_mul p big 0 ∙ under p (omega arith) ∙ zero-mod p

module _ (p : ℕ) (big : 1 < p) where
  pub neg_m_back : (a : ℕ) → a < p → neg_m p (neg_m p a) ≡ a
  neg_m_back a h = neg_m_neg_m p big a ∙ mod-eq_of_lt h

  -- With no side condition, for `simp`: a sum, a product and a negative are below p.
  pub back_mul : (a b : ℕ) → neg_m p (neg_m p (mul_m p a b)) ≡ mul_m p a b
  back_mul a b = neg_m_back (mul_m p a b) (mul_m_lt p big a b)

  pub neg_cancel : (a b : ℕ) → add_m p a (add_m p (neg_m p a) b) ≡ add_m p 0 b
  neg_cancel a b = sym (add_m_assoc p a (neg_m p a) b) ∙ rw add_m_neg_m

  pub zero_add : (a b : ℕ) → add_m p 0 (add_m p a b) ≡ add_m p a b
  zero_add a b = zero_add_m p big (add_m p a b) (add_m_lt p big a b)

  pub zero_mul : (a b : ℕ) → add_m p 0 (mul_m p a b) ≡ mul_m p a b
  zero_mul a b = zero_add_m p big (mul_m p a b) (mul_m_lt p big a b)

  pub zero_neg : (a : ℕ) → add_m p 0 (neg_m p a) ≡ neg_m p a
  zero_neg a = zero_add_m p big (neg_m p a) (neg_m_lt p big a)

-- What sorts sums, products, and both: for `simp`, in any scope that has `1 < p`.
pub ruleset sums = (add_m_assoc, add_m_comm, add_m_left_comm)

pub ruleset prods = (mul_m_assoc, mul_m_comm, mul_m_left_comm)

pub ruleset ring = (sub_m_add, mul_m_add_m, add_m_mul_m, neg_m_add_m, neg_m_mul_m, mul_m_neg_m, sums, prods)

pub ruleset full = (ring, back_mul, add_m_neg_m, neg_cancel, zero_add, zero_mul, zero_neg, zero_mul_m, mul_m_zero)
