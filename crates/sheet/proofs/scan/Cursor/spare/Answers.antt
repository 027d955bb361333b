-- Each word is 0 and has room.
use Rattle.std.proofs.Common.{ap, length, rules, arith, ltb, eqb, ◌&&◌}
use Rattle.sheet.specs.Readings.{Reading}
use Rattle.sheet.proofs.Laws.{spare_stop, spare_next, spare_done}
use Rattle.sheet.proofs.scan.Cursor.spare.Goals as goal

pub returns-in_default : goal.returns-in_default
returns-in_default c =
    let l = c.loop-k in
    let word = c.word-word.ensures.scan (λ w. ltb l.k-counter 126 && eqb w 0) (λ w passes few said. search rules) in
    spare_stop l.invariant.0 (omega (arith, ap (λ (r : Reading). length r.words) c.self.view_is)) _ _ word _ c.unwrap_err.ensures

pub loop-k-preserved : goal.loop-k-preserved
loop-k-preserved c =
    let l = c.loop-k in
    let word = c.word-word.ensures.scan (λ w. ltb l.k-counter 126 && eqb w 0) (λ w passes few said. search rules) in
    (spare_next l.invariant.0 (omega (arith, ap (λ (r : Reading). length r.words) c.self.view_is)) _ _ word _ c.in-Ok.is, omega (arith, ap length c.in-Ok.ensures.word))

pub returns : goal.returns
returns c = spare_done c.loop-k.invariant.0 (omega (arith, ap (λ (r : Reading). length r.words) c.self.view_is))
