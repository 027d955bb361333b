use Rattle.std.proofs.Common.{◌∙◌, arith}
use Rattle.std.proofs.Math.ListN.{length-set}
use Rattle.slices.proofs.Laws.{fill_next}
use Rattle.slices.proofs.fill_from.Goals as goal

pub loop-i-preserved : goal.loop-i-preserved
loop-i-preserved g c =
    let a = c.args in
    let l = c.loop-i in (
      length-set l.s l.i a.value ∙ l.invariant.0,
      fill_next l.s _ a.k l.i a.value (omega arith) (omega arith) l.invariant.1,
    )
