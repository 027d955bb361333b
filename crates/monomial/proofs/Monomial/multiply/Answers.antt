-- The variables are merged and the coefficients multiplied: each part of the product is what the callee ensures.
use mathlib.Core.Path.{sym, subst, ◌∙◌}
use native.Mathlib.Omega.{arith}
use mathlib.Core.List.{◌++◌}
use Rattle.semantics.specs.Lists.{Sorted}
use Rattle.semantics.specs.Monomial.{above, sort, mul_monomial}
use Rattle.monomial.proofs.Readings.{first_vars}
use Rattle.monomial.proofs.Monomial.multiply.Goals as goal

pub merge_vars-requires : goal.merge_vars-requires
merge_vars-requires c =
    let l = first_vars c.args.self.now c.len-n.result c.len-n.ensures.0 in
    let r = first_vars c.args.other.now c.len-m.result c.len-m.ensures.0 in (
      omega (arith, c.requires.0, c.len-n.ensures.0, c.len-m.ensures.0),
      subst (Sorted above) (sym l) c.requires.1,
      subst (Sorted above) (sym r) c.requires.2,
    )

pub returns : goal.returns
unfolding mul_monomial
returns c =
    let l = first_vars c.args.self.now c.len-n.result c.len-n.ensures.0 in
    let r = first_vars c.args.other.now c.len-m.result c.len-m.ensures.0 in
    let vars = c.merge_vars.ensures ∙ (λ i. sort above (l i ++ r i)) in
    (λ t. record { vars = vars t; coef = c.mul.ensures t }, omega (arith, c.len-n.ensures.0, c.len-m.ensures.0))
