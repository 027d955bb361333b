-- A coefficient as a signed number: its sign, and its size in decimal.
use mathlib.Core.Path.{◌≡◌, refl, ap, ◌∙◌}
use mathlib.Core.Bool.{true, false}
use mathlib.Core.List.{[], ◌∷◌, ◌++◌}
use Prim.Native.Nat.{ℕ}
use native.Mathlib.Omega.{arith}
use lib.Dec.{leb→le}
use lib.IntN.{ℤ, pos, negsuc, nat_abs}
use lib.Signed.{lt_z}
use mir.Syntax.{w64}
use mir.Val.{SFits, to_z, of_z}
use mir.Facts.{to_z-of_z}
use borrow.Author.Tests.{ltb-true}
use Rattle.semantics.specs.Arithmetic.{prime, signed_of, SignedRange}
use Rattle.semantics.specs.Sheetlist.{decimal, integer, signed}

-- A number inside the range of a value fits a signed word.
ranged_fits : (z : ℤ) → SignedRange prime z → SFits w64 z
ranged_fits (pos n) h = let l = leb→le n 1006632960 h.high.le in record { sfits = omega arith }
ranged_fits (negsuc n) h = let l = leb→le n 1006632959 h.low.le in record { sfits = omega arith }

minus_text : (z : ℤ) → lt_z z (pos 0) ≡ true → 45 ∷ decimal (nat_abs z) ≡ integer z
unfolding integer
minus_text (pos n) t = absurd (omega (arith, ltb-true n 0 t))
minus_text (negsuc n) t = refl

plain_text : (z : ℤ) → lt_z z (pos 0) ≡ false → decimal (nat_abs z) ≡ integer z
unfolding integer
plain_text (pos n) t = refl
plain_text (negsuc n) t = cc

-- The value of a coefficient as the code reads it: below 0 it has a minus sign.
abbrev read_as : ℤ → ℤ
read_as z = to_z w64 (of_z w64 z)

module _ (c : ℕ) (r : ℤ) (told : (r ≡ signed_of prime c) × SignedRange prime r) where
  read_text : integer (read_as r) ≡ signed prime c
  unfolding signed
  read_text = ap integer (to_z-of_z (ranged_fits r told.1) ∙ told.0)

  pub signed_minus : lt_z (read_as r) (pos 0) ≡ true → (45 ∷ []) ++ decimal (nat_abs (read_as r)) ≡ signed prime c
  signed_minus t = minus_text (read_as r) t ∙ read_text

  pub signed_plain : lt_z (read_as r) (pos 0) ≡ false → decimal (nat_abs (read_as r)) ≡ signed prime c
  signed_plain t = plain_text (read_as r) t ∙ read_text
