use native.Mathlib.Omega.{arith}
use borrow.Author.Rules.{rules}
use Rattle.group.proofs.RowTotals.{running_start, running_small, running_step, running_done}
use Rattle.group.proofs.totals.start_terms.Goals as goal

pub loop-i-init : goal.loop-i-init
loop-i-init c = running_start c.args.headers.now c.args.n 1 3

pub overflow_add-total : goal.overflow_add-total
overflow_add-total c =
    let a = c.args in
    let p = c.requires in
    let b = c.loop-i in
    let q = running_small a.headers.now a.n 1 3 b.headers b.total b.i b.invariant c.loop-i-test.true (omega arith) in
    search rules

pub loop-i-preserved : goal.loop-i-preserved
loop-i-preserved c =
    let a = c.args in
    let b = c.loop-i in
    running_step a.headers.now a.n 1 3 b.headers b.total b.i b.invariant c.loop-i-test.true (omega arith) (omega arith) c.requires.0

pub returns : goal.returns
returns c =
    let a = c.args in
    let b = c.loop-i in
    running_done a.headers.now a.n 1 3 b.headers b.total b.i b.invariant c.loop-i-test.false
