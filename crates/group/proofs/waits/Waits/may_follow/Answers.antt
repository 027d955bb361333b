-- With none waiting any monomial may wait, with no room left none may; else its variables are compared with those of the last that waits (`follows_last`).
use mathlib.Core.Path.{◌∙◌}
use native.Mathlib.Omega.{arith}
use Rattle.monomial.specs.Orders.{order_of}
use Rattle.group.proofs.Awaiting.{follows_last}
use Rattle.group.proofs.waits.Waits.may_follow.Goals as goal

pub returns-in-Greater : goal.returns-in-Greater
returns-in-Greater c =
    let a = c.args in
    let l = c.if-self-ge32.false in
    let o = c.compare-order in (
      omega arith,
      follows_last a.pool.now a.self.now.places a.self.now.count a.at o.result
          (o.ensures ∙ (λ i. order_of (c.vars_at.ensures i) (c.vars_at-2.ensures i))) c.in-Greater.is,
    )
