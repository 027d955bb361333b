use native.Mathlib.Omega.{arith}
use Rattle.group.proofs.Searching.{row_same, row_before, row_after}
use Rattle.group.proofs.Groups.search_rows.Goals as goal

pub returns-in-Equal : goal.returns-in-Equal
returns-in-Equal c = row_same c.args.at c.args.self.now.rows c.loop-low.invariant c.order_of_row-order.ensures (omega arith) (omega arith) c.in-Equal.is

pub loop-low-preserved-in-Less : goal.loop-low-preserved-in-Less
loop-low-preserved-in-Less c = row_before c.args.at c.args.self.now.rows c.loop-low.invariant c.order_of_row-order.ensures (omega arith) (omega arith) c.in-Less.is

pub loop-low-preserved : goal.loop-low-preserved
loop-low-preserved c = row_after c.args.at c.args.self.now.rows c.loop-low.invariant c.order_of_row-order.ensures (omega arith) (omega arith) c.in-Greater.is
