-- The variables stay, and the coefficient is what `neg` ensures.
use mathlib.Core.Path.{refl}
use Rattle.semantics.specs.Monomial.{neg_monomial}
use Rattle.monomial.specs.Words.{nums}
use lib.ListN.{take}
use Rattle.monomial.proofs.Monomial.negative.Goals as goal

pub returns : goal.returns
unfolding neg_monomial
returns c =
    let m = c.args.self in
    (λ t. record { vars = take m.count (nums m.vars); coef = c.neg.ensures t }, refl)
