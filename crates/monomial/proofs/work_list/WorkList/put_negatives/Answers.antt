use mathlib.Core.Path.{sym, ap, subst}
use native.Mathlib.Omega.{arith}
use lib.ListN.{length}
use Rattle.monomial.specs.Words.{monomial_of, Fits}
use Rattle.monomial.proofs.Canons.{fits_negative}
use Rattle.monomial.proofs.Summing.{negating_none, negating_more, negating_done}
use Rattle.monomial.proofs.work_list.WorkList.put_negatives.Goals as goal

pub loop-m-init : goal.loop-m-init
loop-m-init c =
    let a = c.args in
    negating_none a.self.now a.list c.into_iter-m-iterator.result c.into_iter-m-iterator.ensures.into_iter_gives c.requires

pub put-requires : goal.put-requires
put-requires c = (
  omega (arith, ap length c.in-Some.ensures.steps.0, c.loop-m.invariant.room),
  subst Fits (sym c.negative.ensures.0) (fits_negative (monomial_of c.in-Some.m) c.in-Some.ensures.steps.1),
)

pub loop-m-preserved : goal.loop-m-preserved
loop-m-preserved c =
    let a = c.args in
    let l = c.loop-m in
    negating_more a.self.now a.list l.m-iterator c.next.new.self l.self c.put.new.self (monomial_of c.in-Some.m) (monomial_of c.negative.result) l.invariant c.in-Some.ensures.steps.0
    c.negative.ensures.0 c.put.ensures

pub returns : goal.returns
returns c = negating_done c.args.self.now c.args.list c.loop-m.m-iterator c.loop-m.self c.loop-m.invariant c.in-None.ensures.steps.0
