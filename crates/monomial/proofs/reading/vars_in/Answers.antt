-- The result is the lower of the count that stands at `at` and of how many words stand behind the first two: `vars_in_is`.
use native.Mathlib.Omega.{arith}
use Rattle.monomial.proofs.ListLaws.{vars_in_is}
use Rattle.monomial.proofs.reading.vars_in.Goals as goal

pub returns : goal.returns
returns c =
    let a = c.args in
    omega (arith, c.min.ensures, vars_in_is a.words.now a.at)
