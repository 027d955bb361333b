-- What is said of a call is the scan of the part's tests.
use Rattle.std.proofs.Common.{arith}
use Rattle.sheet.proofs.Laws.{parts_begin, parts_stop, parts_next, parts_done}
use Rattle.sheet.proofs.scan.Cursor.parts.Goals as goal

pub returns-in_default : goal.returns-in_default
returns-in_default g c n tests judges =
    let l = c.loop-own in
    let r = c.check-part in
    rw c.in_default.is (parts_stop (l.invariant n tests judges) (omega arith) r.result _ (judges _ _ l.own r.result (omega arith) r.ensures) _ c.in_default.is)

pub loop-own-preserved : goal.loop-own-preserved
loop-own-preserved g c n tests judges =
    let l = c.loop-own in
    let r = c.check-part in
    parts_next (l.invariant n tests judges) (omega arith) r.result _ (judges _ _ l.own r.result (omega arith) r.ensures) _ c.in-Ok.is

pub loop-own-init : goal.loop-own-init
loop-own-init g c n tests judges = parts_begin n tests _ _

pub returns : goal.returns
returns g c n tests judges = parts_done (c.loop-own.invariant n tests judges) (omega arith)
