use native.Mathlib.Omega.{arith}
use Rattle.group.proofs.RowTotals.{summing_start, summing_step, summing_done}
use Rattle.group.proofs.totals.column_total.Goals as goal

pub loop-i-init : goal.loop-i-init
loop-i-init c = summing_start c.args.word c.args.n c.args.headers.now

pub loop-i-preserved : goal.loop-i-preserved
loop-i-preserved c =
    let a = c.args in
    let b = c.loop-i in
    summing_step a.word a.n a.headers.now b.total b.i c.requires.0 c.loop-i-test.true (omega arith) b.invariant

pub returns : goal.returns
returns c =
    let a = c.args in
    let b = c.loop-i in
    summing_done a.word a.n a.headers.now b.total b.i c.loop-i-test.false b.invariant
