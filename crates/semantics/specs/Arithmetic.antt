-- Arithmetic modulo p (01: "All arithmetic on values is modulo p, each kept as 0 to p − 1").
use Rattle.std.specs.Prelude.{cond, ℕ, ◌+◌, ◌*◌, ◌-◌, ◌/◌, ◌%◌, leb, ℤ, pos, neg_ℤ, ◌-ℤ◌, ◌≤ℤ◌}

-- "p is 2013265921"; every definition below takes the modulus as its parameter.
abbrev pub prime : ℕ
prime = 2013265921

unfoldable pub add_m : ℕ → ℕ → ℕ → ℕ
add_m p a b = (a + b) % p

unfoldable pub sub_m : ℕ → ℕ → ℕ → ℕ
sub_m p a b = (a + (p - b % p)) % p

unfoldable pub mul_m : ℕ → ℕ → ℕ → ℕ
mul_m p a b = (a * b) % p

unfoldable pub neg_m : ℕ → ℕ → ℕ
neg_m p a = (p - a % p) % p

-- "A coefficient up to 1006632960 prints as itself, above that less p, so it may be negative": a number's value as a signed number.
unfoldable pub signed_of : (p : ℕ) → ℕ → ℤ
signed_of p c = cond (leb (c % p) ((p - 1) / 2)) (pos (c % p)) (pos (c % p) -ℤ pos p)

-- "a signed number between −(p−1)/2 and (p−1)/2"
pub record SignedRange (p : ℕ) (z : ℤ) : Type 0 where
  pub low : neg_ℤ (pos ((p - 1) / 2)) ≤ℤ z
  pub high : z ≤ℤ pos ((p - 1) / 2)
