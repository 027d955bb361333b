-- The signed reading of a value stands inside its range.
use mathlib.Core.Path.{◌≡◌, subst⁻¹, ◌∙◌}
use Prim.Native.Nat.{ℕ, zero, suc, ◌+◌, ◌*◌, ◌-◌, ◌/◌, ◌%◌, ◌≤◌, ◌<◌}
use native.Mathlib.Omega.{arith}
use native.Mathlib.Nat.{mod-lt}
use native.Mathlib.Numerals.{add-one}
use lib.Dec.{leb, le→leb}
use lib.IntN.{pos, negsuc, neg_ℤ, ◌-ℤ◌}
use lib.Signed.{◌≤ℤ◌, le_z_yes}
use borrow.Author.Tests.{lt-ltb}
use Rattle.semantics.specs.Arithmetic.{signed_of, SignedRange}
use Rattle.semantics.proofs.Basics.{by_test, tests}

negative_low : (h n : ℕ) → neg_ℤ (pos h) ≤ℤ pos n
negative_low zero n = le_z_yes (le→leb 0 n (omega arith))
negative_low (suc h) n = le_z_yes tt

negatives : (h n : ℕ) → n < h → neg_ℤ (pos h) ≤ℤ negsuc n
negatives zero n l = absurd (omega arith)
negatives (suc h) n l = le_z_yes (le→leb n h (omega arith))

-- A value up to half the modulus, and one above it less the modulus.
module _ (q r : ℕ) where
  range_low : r ≤ q / 2 → SignedRange (suc q) (pos r)
  range_low l = record { low = negative_low ((suc q - 1) / 2) r; high = le_z_yes (le→leb r ((suc q - 1) / 2) (omega arith)) }

  range_high : r < suc q → q < r + q / 2 → SignedRange (suc q) (pos r -ℤ pos (suc q))
  range_high l m = rw (lt-ltb r (suc q) l) (record { low = negatives ((suc q - 1) / 2) (suc q - suc r) (omega arith); high = le_z_yes tt })

-- For an odd modulus every number reads so.
pub signed_range : (h p : ℕ) → p ≡ 2 * h + 1 → (c : ℕ) → SignedRange p (signed_of p c)
unfolding signed_of
signed_range h p e c = subst⁻¹ (λ (n : ℕ). SignedRange n (signed_of n c)) (e ∙ add-one (2 * h)) (odd (2 * h) (omega arith))
  where
    odd : (q : ℕ) → q ≡ 2 * (q / 2) → SignedRange (suc q) (signed_of (suc q) c)
    odd q even =
        by_test (SignedRange (suc q)) (leb (c % suc q) ((suc q - 1) / 2)) (λ e. range_low q (c % suc q) (omega tests))
        (λ e. range_high q (c % suc q) (mod-lt c {m = suc q} (omega arith)) (omega tests))
