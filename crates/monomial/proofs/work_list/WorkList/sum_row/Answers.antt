use mathlib.Core.Path.{sym, ap, subst, ◌∙◌}
use mathlib.Core.List.{map}
use native.Mathlib.Omega.{arith}
use lib.ListN.{length, length-map}
use Rattle.semantics.specs.Arithmetic.{prime}
use Rattle.semantics.specs.Monomial.{Monomial, mul_monomial, insert_monomial}
use Rattle.monomial.specs.Words.{monomial_of, longest_of, Fits}
use Rattle.monomial.proofs.Canons.{fits_product}
use Rattle.monomial.proofs.Products.{short_next}
use Rattle.monomial.proofs.Summing.{adding_none, adding_more, adding_done}
use Rattle.monomial.proofs.work_list.WorkList.sum_row.Goals as goal

pub loop-right-init : goal.loop-right-init
loop-right-init c =
    let a = c.args in
    let times = map (mul_monomial prime (monomial_of a.left.now)) in
    let e = c.into_iter-right-iterator.ensures.into_iter_gives in (
      adding_none a.self.now (times a.list) (times c.into_iter-right-iterator.result) (ap times e) (omega (arith, length-map a.list (mul_monomial prime (monomial_of a.left.now)), c.requires.0))
          c.requires.1,
      omega (arith, ap longest_of e),
    )

pub multiply-requires : goal.multiply-requires
multiply-requires c =
    let s = short_next _ _ _ _ c.in-Some.ensures.steps.0 c.loop-right.invariant.1 in
    (omega (arith, s.0, c.requires.3), c.requires.2, c.in-Some.ensures.steps.1.sorted)

pub sum-requires : goal.sum-requires
sum-requires c =
    let l = c.loop-right in
    let e = ap length (ap (map (mul_monomial prime (monomial_of c.args.left.now))) c.in-Some.ensures.steps.0) in
    let s = short_next _ _ _ _ c.in-Some.ensures.steps.0 l.invariant.1 in
    let product = fits_product (monomial_of c.args.left.now) (monomial_of c.in-Some.right) (omega (arith, s.0, c.requires.3)) in
    (omega (arith, e, l.invariant.0.room), l.invariant.0.ascends, subst Fits (sym c.multiply.ensures.0) product)

pub loop-right-preserved : goal.loop-right-preserved
loop-right-preserved c =
    let a = c.args in
    let l = c.loop-right in
    let times = map (mul_monomial prime (monomial_of a.left.now)) in
    let s = short_next _ _ _ _ c.in-Some.ensures.steps.0 l.invariant.1 in (
      adding_more a.self.now (times a.list) (times l.right-iterator) (times c.next.new.self) l.self c.sum.new.self _ l.invariant.0 (ap times c.in-Some.ensures.steps.0)
          (c.sum.ensures ∙ ap (λ (x : Monomial). insert_monomial prime x l.self) c.multiply.ensures.0),
      s.1,
    )

pub returns : goal.returns
returns c =
    let a = c.args in
    let times = map (mul_monomial prime (monomial_of a.left.now)) in
    let l = c.loop-right in
    adding_done a.self.now (times a.list) (times l.right-iterator) l.self l.invariant.0 (ap times c.in-None.ensures.steps.0)
