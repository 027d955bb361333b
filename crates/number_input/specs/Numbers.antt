-- The numbers of an input: digits, then one byte that ends them; a number takes at most so many bytes, that one among them.
use Rattle.std.specs.Prelude.{Bool, cond, List, [], ◌∷◌, ℕ, zero, suc, ◌+◌, ◌*◌, ◌%◌, ◌^◌, leb}

-- Each byte from 48 on, which is `0`, is a digit.
abbrev pub is_digit : (byte : ℕ) → Bool
is_digit b = leb 48 b

-- The value with one more digit, in 64 bits: ten times its remainder by `cut`, and the byte's remainder by 16.
abbrev pub with_digit : (cut value byte : ℕ) → ℕ
with_digit cut value b = (value % cut * 10 + b % 16) % 2 ^ 64

-- The number that the digits at the front make, read on from a value.
unfoldable pub reading : (most cut value : ℕ) → List ℕ → ℕ
reading zero cut value bs = value
reading (suc most) cut value [] = value
reading (suc most) cut value (b ∷ bs) = cond (is_digit b) (reading most cut (with_digit cut value b) bs) value

abbrev pub front_number : (most cut : ℕ) → List ℕ → ℕ
front_number most cut = reading most cut 0

-- What stands behind those digits and the byte that ends them.
unfoldable pub behind_number : (most : ℕ) → List ℕ → List ℕ
behind_number zero bs = bs
behind_number (suc most) [] = []
behind_number (suc most) (b ∷ bs) = cond (is_digit b) (behind_number most bs) bs
