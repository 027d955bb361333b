-- What is left of x by p, without a division by p. With u = x / 2^30 and q = u * m / 2^33 the rest x - q * p is below 2 * p: m * p is at
-- most 2^63, so q * p is at most x; 2^63 is below (m + 1) * p, so the rest is below p + u * p / 2^33 + 2^30; and u is at most
-- p * p / 2^30, so by `cube` that is at most 2 * p.
use mathlib.Core.Path.{◌≡◌, refl, ap}
use Prim.Native.Nat.{ℕ, ◌+◌, ◌*◌, ◌-◌, ◌/◌, ◌%◌, ◌≤◌, ◌<◌, ◌^◌}
use native.Mathlib.Omega.{arith}
use native.Mathlib.Nat.{mul-le-mul, mul-le-mul_left, mul-le-mul_right, lt_of_mul-lt-mul_right}
use lib.Dec.{lit<, lit≤}
use Rattle.field.specs.Modulus.{Modulus, Reciprocal, BothPrimes}
use Rattle.field.proofs.Laws.{remainder}

-- with d = 2^31 - p: d * (p * p + 2^31 * p - 2^62) is not negative
cube : (p d : ℕ) → 2 ^ 32 ≤ 3 * p → p + d ≡ 2 ^ 31 → p * p * p + 2 ^ 93 ≤ 2 ^ 63 * p
cube p d t e =
    let s : 2 ^ 62 ≤ p * p + 2 ^ 31 * p = omega (arith, mul-le-mul t t) in
    omega (arith, mul-le-mul_left d s, ap (λ (y : ℕ). y * p) e, ap (λ (y : ℕ). y * (p * p)) e)

module _ {p m x : ℕ} (pre : (x < p * p) × Modulus p × Reciprocal p m) where
  abbrev u : ℕ
  u = x / 2 ^ 30

  abbrev q : ℕ
  q = u * m / 2 ^ 33

  abbrev rest : ℕ
  rest = x - q * p

  pub scaled_fits : u * m < 2 ^ 64
  scaled_fits =
      let h : u * m * p < 2 ^ 33 * p * p = omega (arith, pre.0, mul-le-mul_left u pre.2.low) in
      omega (arith, lt_of_mul-lt-mul_right p h)

  pub quotient_low : q * p ≤ x
  quotient_low =
      let h : q * 2 ^ 33 ≤ u * m = omega arith in
      omega (arith, mul-le-mul_right p h, mul-le-mul_left u pre.2.low)

  pub rest_low : rest < 2 * p
  rest_low =
      let f : 2 ^ 63 ≤ (m + 1) * p = omega arith in
      let g : u * 2 ^ 30 ≤ p * p = omega (arith, pre.0) in
      let h : u * m ≤ (q + 1) * 2 ^ 33 = omega arith in
      omega (arith, mul-le-mul_left u f, mul-le-mul_right p g, mul-le-mul_right p h, cube p (2 ^ 31 - p) pre.1.third (omega arith))

  pub rest_done : rest < p → rest ≡ x % p
  rest_done h = remainder p rest x q 0 h (omega (arith, quotient_low))

  pub rest_once : p ≤ rest → rest - p ≡ x % p
  rest_once h = remainder p (rest - p) x (q + 1) 0 (omega (arith, rest_low)) (omega (arith, quotient_low))

-- both primes and their reciprocals are as asked
pub both_primes : BothPrimes
both_primes =
    record {
      baby_bear = (record { third = lit≤ tt; half = lit≤ tt; odd = refl }, record { low = lit≤ tt; high = lit< tt });
      koala_bear = (record { third = lit≤ tt; half = lit≤ tt; odd = refl }, record { low = lit≤ tt; high = lit< tt });
    }
