-- Row `near` is compared first, and then the rows before it or behind it are searched, as the comparison says (`row_before`, `row_after`); where there
-- is no such row, all are searched (`rows_all`).
use native.Mathlib.Omega.{arith}
use Rattle.group.proofs.Searching.{rows_all, row_same, row_before, row_after}
use Rattle.group.proofs.Groups.find_near.Goals as goal

pub search_rows-requires : goal.search_rows-requires
search_rows-requires c =
    let a = c.args in
    (c.requires, rows_all a.self.now.n a.at a.self.now.headers.now a.self.now.pool.now)

pub search_rows-requires-in-Less : goal.search_rows-requires-in-Less
search_rows-requires-in-Less c =
    let a = c.args in
    (c.requires, row_before a.at a.self.now.rows (rows_all a.self.now.n a.at a.self.now.headers.now a.self.now.pool.now) c.order_of_row-order.ensures (omega arith) (omega arith) c.in-Less.is)

pub search_on-requires : goal.search_on-requires
search_on-requires c =
    let a = c.args in
    (c.requires, row_after a.at a.self.now.rows (rows_all a.self.now.n a.at a.self.now.headers.now a.self.now.pool.now) c.order_of_row-order.ensures (omega arith) (omega arith) c.in-Greater.is)

pub returns-in-Equal : goal.returns-in-Equal
returns-in-Equal c =
    let a = c.args in
    row_same c.args.at c.args.self.now.rows (rows_all a.self.now.n a.at a.self.now.headers.now a.self.now.pool.now) c.order_of_row-order.ensures (omega arith) (omega arith) c.in-Equal.is
