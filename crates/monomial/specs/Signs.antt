-- A monomial and a list with a sign.
use Rattle.std.specs.Prelude.{List}
use mathlib.Core.List.{map}
use Rattle.semantics.specs.Arithmetic.{prime}
use Rattle.semantics.specs.Monomial.{Monomial, neg_monomial}
use Rattle.monomial.specs.declared.Sign.{Sign}
use Rattle.monomial.specs.declared.Sign.TheVariants.{Plus, Minus}

abbrev pub with_sign : Sign → Monomial → Monomial
with_sign Plus m = m
with_sign Minus m = neg_monomial prime m

-- The right list of a difference is negated.
abbrev pub signed : Sign → List Monomial → List Monomial
signed Plus ms = ms
signed Minus ms = map (neg_monomial prime) ms
