-- Laws of words and their remainders, and of the signed reading. Assumes nothing.
use mathlib.Core.Path.{◌≡◌, refl, sym, subst, ◌∙◌}
use Prim.Native.Nat.{ℕ, suc, ◌+◌, ◌*◌, ◌-◌, ◌/◌, ◌%◌, ◌<◌, ◌≤◌, ◌^◌}
use native.Mathlib.Omega.{arith}
use native.Mathlib.Nat.{mod-lt, mod-eq_of_lt}
use lib.Dec.{ltb}
use lib.IntN.{ℤ, pos, ◌-ℤ◌}
use mir.Syntax.{w64}
use mir.Val.{SFits, to_z, of_z}
use mir.Facts.{to_z_pos, to_z-of_z}
use borrow.Author.Tests.{le-leb, lt-leb}
use Rattle.semantics.specs.Arithmetic.{add_m, sub_m, mul_m, neg_m, signed_of, SignedRange}
use Rattle.field.specs.Modulus.{Modulus}
use Rattle.semantics.proofs.Basics.{by_test}
use Rattle.semantics.proofs.Arithmetic.{mods, same_mod}
use Rattle.semantics.proofs.Signs.{signed_range}

-- a number below p that differs from x by a multiple of p is x's remainder
pub remainder : (p r x k l : ℕ) → r < p → r + k * p ≡ x + l * p → r ≡ x % p
remainder p r x k l h e = sym (mod-eq_of_lt h) ∙ same_mod p r x k l e

-- the remainder of a word is a value
pub low : (p a : ℕ) {r : ℕ} → Modulus p → r ≡ a % p → r < p
low p a m e = rw e (mod-lt a (omega arith))

-- the operations on words a and b, of which r and s are the remainders
module _ (p a : ℕ) {r : ℕ} (m : Modulus p) (e : r ≡ a % p) where
  pub neg_none : r ≡ 0 → 0 ≡ neg_m p a
  unfolding neg_m
  neg_none z = remainder p 0 (p - a % p) 1 0 (omega arith) (omega (arith, e, z))

  pub neg_some : (r ≡ 0 → ⊥) → p - r ≡ neg_m p a
  unfolding neg_m
  neg_some z = rw (← e) (remainder p (p - r) (p - r) 0 0 (omega (arith, low p a m e)) refl)

  module _ (b : ℕ) {s : ℕ} (f : s ≡ b % p) where
    add_rests : (r + s) % p ≡ add_m p a b
    unfolding add_m
    add_rests = rw (e, f) (simp mods)

    sub_rests : (r + (p - s)) % p ≡ sub_m p a b
    unfolding sub_m
    sub_rests = rw (e, f) (simp mods)

    pub mul_rests : (r * s) % p ≡ mul_m p a b
    unfolding mul_m
    mul_rests = rw (e, f) (simp mods)

    pub add_low : r + s < p → r + s ≡ add_m p a b
    add_low h = remainder p (r + s) (r + s) 0 0 h refl ∙ add_rests

    pub add_high : p ≤ r + s → r + s - p ≡ add_m p a b
    add_high h = remainder p (r + s - p) (r + s) 1 0 (omega (arith, low p a m e, low p b m f)) (omega arith) ∙ add_rests

    pub sub_low : s ≤ r → r - s ≡ sub_m p a b
    sub_low h = remainder p (r - s) (r + (p - s)) 1 0 (omega (arith, low p a m e)) (omega (arith, low p b m f)) ∙ sub_rests

    pub sub_high : r < s → r + (p - s) ≡ sub_m p a b
    sub_high h = remainder p (r + (p - s)) (r + (p - s)) 0 0 (omega (arith, low p b m f)) refl ∙ sub_rests

-- a value less its modulus has room in 64 signed bits
difference_fits : (q x : ℕ) → x ≤ q → q < 2 ^ 31 → SFits w64 (pos x -ℤ pos (suc q))
difference_fits q x l s =
    by_test (SFits w64) (ltb x (suc q)) (λ t. record { sfits = omega arith }) (λ t. record { sfits = omega arith })

-- the signed reading of a word c, of which x is the remainder
module _ (p c : ℕ) {x : ℕ} (m : Modulus p) (e : x ≡ c % p) where
  as_is : to_z w64 x ≡ pos x
  as_is = to_z_pos w64 (omega (arith, low p c m e))

  modulus_as_is : to_z w64 p ≡ pos p
  modulus_as_is = to_z_pos w64 (omega arith)

  pub less_fits : SFits w64 (to_z w64 x -ℤ to_z w64 p)
  less_fits =
      let l = low p c m e in
      let s : suc (p - 1) ≡ p = omega arith in
      rw (as_is, modulus_as_is) (subst (λ (n : ℕ). SFits w64 (pos x -ℤ pos n)) s (difference_fits (p - 1) x (omega arith) (omega arith)))

  -- it is inside its range
  ranged : {z : ℤ} → z ≡ signed_of p c → (z ≡ signed_of p c) × SignedRange p z
  ranged z = (z, subst (SignedRange p) (sym z) (signed_range (p / 2) p (omega arith) c))

  pub signed_low : x ≤ p / 2 → (to_z w64 x ≡ signed_of p c) × SignedRange p (to_z w64 x)
  unfolding signed_of
  signed_low l = ranged (rw (as_is, ← e, le-leb x ((p - 1) / 2) (omega arith)))

  abbrev less : ℤ
  less = to_z w64 (of_z w64 (to_z w64 x -ℤ to_z w64 p))

  pub signed_high : p / 2 < x → (less ≡ signed_of p c) × SignedRange p less
  unfolding signed_of
  signed_high l = ranged (to_z-of_z less_fits ∙ rw (as_is, modulus_as_is, ← e, lt-leb x ((p - 1) / 2) (omega arith)))
