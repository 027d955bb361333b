use native.Mathlib.Omega.{arith}
use Rattle.group.proofs.Searching.{row_same, row_before, row_after}
use Rattle.group.proofs.Groups.search_on.Goals as goal

pub returns-in-Equal : goal.returns-in-Equal
returns-in-Equal c = row_same c.args.at c.args.self.now.rows c.loop-step.invariant c.order_of_row-order.ensures (omega arith) (omega arith) c.in-Equal.is

pub search_rows-requires : goal.search_rows-requires
search_rows-requires c =
    let p = c.requires in
    (p.0, row_before c.args.at c.args.self.now.rows c.loop-step.invariant c.order_of_row-order.ensures (omega arith) (omega arith) c.in-Less.is)

pub loop-step-preserved : goal.loop-step-preserved
loop-step-preserved c = row_after c.args.at c.args.self.now.rows c.loop-step.invariant c.order_of_row-order.ensures (omega arith) (omega arith) c.in-Greater.is
