-- What arithmetic without a division by p asks of p (02, R-3).
use Rattle.std.specs.Prelude.{◌≡◌, ℕ, ◌+◌, ◌*◌, ◌%◌, ◌≤◌, ◌<◌, ◌^◌}
use Rattle.semantics.specs.Arithmetic.{prime}

-- p is odd and from a third of 2^32 to half of it: every word is below 3 * p, the sum of two values is a word, and one subtraction ends the step.
pub record Modulus (p : ℕ) : Type 0 where
  pub third : 2 ^ 32 ≤ 3 * p
  pub half : p ≤ 2 ^ 31
  pub odd : p % 2 ≡ 1

-- m is 2^63 / p, rounded down
pub record Reciprocal (p m : ℕ) : Type 0 where
  pub low : m * p ≤ 2 ^ 63
  pub high : 2 ^ 63 < (m + 1) * p

-- the prime of 01 and that of 02's R-14, and the reciprocal of each
pub record BothPrimes : Type 0 where
  pub baby_bear : Modulus prime × Reciprocal prime 4581298446
  pub koala_bear : Modulus 2130706433 × Reciprocal 2130706433 4328785934
