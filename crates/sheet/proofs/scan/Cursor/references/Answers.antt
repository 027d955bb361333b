-- Each word is judged by `name`.
use Rattle.std.proofs.Common.{arith}
use Rattle.sheet.proofs.Laws.{same_begin, same_first, same_done, left_stops, left_next}
use Rattle.sheet.proofs.scan.Cursor.references.Goals as goal

pub returns-in_default : goal.returns-in_default
returns-in_default c =
    left_stops (same_first _ c.loop-k.invariant (omega arith)) _ _ c.name-name.ensures.scan _ c.unwrap_err.ensures

pub loop-k-preserved : goal.loop-k-preserved
loop-k-preserved c =
    left_next (same_first _ c.loop-k.invariant (omega arith)) _ _ c.name-name.ensures.scan _ c.in-Ok.is

pub loop-k-init : goal.loop-k-init
loop-k-init c = same_begin _ _ _ _

pub returns : goal.returns
returns c = same_done _ c.loop-k.invariant (omega arith)
