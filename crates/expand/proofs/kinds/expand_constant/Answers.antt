-- The list is one monomial, of the constant.
use mathlib.Core.Path.{sym, ap, subst, ◌∙◌}
use mathlib.Core.List.{[], ◌∷◌, ◌++◌}
use native.Mathlib.Omega.{arith}
use lib.ListN.{length}
use Rattle.monomial.specs.Words.{Fits}
use Rattle.monomial.proofs.Canons.{fits_constant}
use Rattle.expand.proofs.kinds.expand_constant.Goals as goal

pub put-requires : goal.put-requires
put-requires c = (omega (arith, ap length c.new-list.ensures), subst Fits (sym c.constant.ensures.0) (fits_constant c.args.value c.requires.1))

pub returns : goal.returns
returns c = c.put.ensures ∙ (λ i. c.new-list.ensures i ++ (c.constant.ensures.0 i ∷ []))
