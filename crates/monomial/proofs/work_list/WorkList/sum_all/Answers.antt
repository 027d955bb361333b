use mathlib.Core.Path.{sym, ap, subst, ◌∙◌}
use native.Mathlib.Omega.{arith}
use lib.ListN.{length}
use Rattle.semantics.specs.Monomial.{Monomial, insert_monomial}
use Rattle.semantics.specs.Arithmetic.{prime}
use Rattle.monomial.specs.Words.{monomial_of, Fits}
use Rattle.monomial.specs.Signs.{signed}
use Rattle.monomial.proofs.Summing.{fits_with_sign, signed_nil, signed_cons, signed_length, adding_none, adding_more, adding_done}
use Rattle.monomial.proofs.work_list.WorkList.sum_all.Goals as goal

pub loop-m-init : goal.loop-m-init
loop-m-init c =
    let a = c.args in
    adding_none a.self.now (signed a.sign a.list) (signed a.sign c.into_iter-m-iterator.result) (ap (signed a.sign) c.into_iter-m-iterator.ensures.into_iter_gives)
    (omega (arith, signed_length a.sign a.list, c.requires.0)) c.requires.1

pub sum-requires : goal.sum-requires
sum-requires c =
    let l = c.loop-m in
    let e = ap (signed c.args.sign) c.in-Some.ensures.steps.0 ∙ signed_cons c.args.sign (monomial_of c.in-Some.m) c.next.new.self in (
      omega (arith, ap length e, l.invariant.room),
      l.invariant.ascends,
      subst Fits (sym c.apply.ensures) (fits_with_sign c.args.sign (monomial_of c.in-Some.m) c.in-Some.ensures.steps.1),
    )

pub loop-m-preserved : goal.loop-m-preserved
loop-m-preserved c =
    let a = c.args in
    let l = c.loop-m in
    let e = ap (signed a.sign) c.in-Some.ensures.steps.0 ∙ signed_cons a.sign (monomial_of c.in-Some.m) c.next.new.self in
    adding_more a.self.now (signed a.sign a.list) (signed a.sign l.m-iterator) (signed a.sign c.next.new.self) l.self c.sum.new.self _ l.invariant e
    (c.sum.ensures ∙ ap (λ (x : Monomial). insert_monomial prime x l.self) c.apply.ensures)

pub returns : goal.returns
returns c =
    let a = c.args in
    adding_done a.self.now (signed a.sign a.list) (signed a.sign c.loop-m.m-iterator) c.loop-m.self c.loop-m.invariant
    (ap (signed a.sign) c.in-None.ensures.steps.0 ∙ signed_nil a.sign)
