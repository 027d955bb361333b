-- The product with the reciprocal has room in 64 bits; the rest is not below 0 and is below 2p, so one subtraction ends it.
use native.Mathlib.Omega.{arith}
use Rattle.field.proofs.Reduction.{scaled_fits, quotient_low, rest_low, rest_done, rest_once}
use Rattle.field.proofs.modular.Barrett.remainder.Goals as goal

pub overflow_mul-quotient : goal.overflow_mul-quotient
overflow_mul-quotient c = record { fits = scaled_fits (c.requires, c.args.self.residues.modulus, c.args.self.reciprocal) }

pub overflow_mul-rest : goal.overflow_mul-rest
overflow_mul-rest c = record { fits = omega (arith, quotient_low (c.requires, c.args.self.residues.modulus, c.args.self.reciprocal)) }

pub overflow_sub-rest : goal.overflow_sub-rest
overflow_sub-rest c = quotient_low (c.requires, c.args.self.residues.modulus, c.args.self.reciprocal)

pub overflow_cast-result-else-rest-modulus : goal.overflow_cast-result-else-rest-modulus
overflow_cast-result-else-rest-modulus c = record { fits = omega (arith, rest_low (c.requires, c.args.self.residues.modulus, c.args.self.reciprocal)) }

pub returns-then-rest-modulus : goal.returns-then-rest-modulus
returns-then-rest-modulus c = rest_done (c.requires, c.args.self.residues.modulus, c.args.self.reciprocal) c.if-rest-modulus.true

pub returns-else-rest-modulus : goal.returns-else-rest-modulus
returns-else-rest-modulus c = rest_once (c.requires, c.args.self.residues.modulus, c.args.self.reciprocal) c.if-rest-modulus.false
