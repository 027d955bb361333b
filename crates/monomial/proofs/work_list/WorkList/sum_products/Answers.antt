use mathlib.Core.Path.{ap, ◌∙◌}
use mathlib.Core.List.{List, map}
use native.Mathlib.Omega.{arith}
use lib.ListN.{length, length-append, length-map}
use Rattle.semantics.specs.Arithmetic.{prime}
use Rattle.semantics.specs.Monomial.{Monomial, mul_monomial, products}
use Rattle.monomial.specs.Words.{monomial_of, longest_of, insert_all}
use Rattle.monomial.proofs.Products.{products_nil, products_cons, products_length, short_next}
use Rattle.monomial.proofs.Summing.{adding_none, adding_next, adding_done}
use Rattle.monomial.proofs.work_list.WorkList.sum_products.Goals as goal

pub loop-l-init : goal.loop-l-init
loop-l-init c =
    let a = c.args in
    let e = c.into_iter-l-iterator.ensures.into_iter_gives in (
      adding_none a.self.now (products prime a.left a.right) (products prime c.into_iter-l-iterator.result a.right) (ap (λ (l : List Monomial). products prime l a.right) e)
          (omega (arith, products_length a.left a.right, c.requires.0)) c.requires.1,
      omega (arith, ap longest_of e),
    )

pub sum_row-requires : goal.sum_row-requires
sum_row-requires c =
    let a = c.args in
    let l = c.loop-l in
    let x = monomial_of c.in-Some.l in
    let row = map (mul_monomial prime x) a.right in
    let e = ap (λ (z : List Monomial). products prime z a.right) c.in-Some.ensures.steps.0 ∙ products_cons prime x c.next.new.self a.right in
    let s = short_next _ _ _ _ c.in-Some.ensures.steps.0 l.invariant.1 in (
      omega (
        arith,
        ap length c.again.ensures,
        ap length e ∙ length-append row (products prime c.next.new.self a.right),
        length-map a.right (mul_monomial prime x),
        l.invariant.0.room,
      ),
      l.invariant.0.ascends,
      c.in-Some.ensures.steps.1.sorted,
      omega (arith, s.0, ap longest_of c.again.ensures, c.requires.2),
    )

pub loop-l-preserved : goal.loop-l-preserved
loop-l-preserved c =
    let a = c.args in
    let l = c.loop-l in
    let x = monomial_of c.in-Some.l in
    let e = ap (λ (z : List Monomial). products prime z a.right) c.in-Some.ensures.steps.0 ∙ products_cons prime x c.next.new.self a.right in
    let s = short_next _ _ _ _ c.in-Some.ensures.steps.0 l.invariant.1 in (
      adding_next a.self.now (products prime a.left a.right) (products prime l.l-iterator a.right) (map (mul_monomial prime x) a.right)
          (products prime c.next.new.self a.right) l.self c.sum_row.new.self l.invariant.0 e
          (c.sum_row.ensures ∙ ap (λ (z : List Monomial). insert_all (map (mul_monomial prime x) z) l.self) c.again.ensures),
      s.1,
    )

pub returns : goal.returns
returns c =
    let a = c.args in
    let l = c.loop-l in
    adding_done a.self.now (products prime a.left a.right) (products prime l.l-iterator a.right) l.self l.invariant.0
    (ap (λ (z : List Monomial). products prime z a.right) c.in-None.ensures.steps.0 ∙ products_nil prime a.right)
