use mathlib.Core.Path.{◌∙◌}
use Prim.Native.Nat.{◌-◌}
use native.Mathlib.Omega.{arith}
use Rattle.group.proofs.Inserts.{insert_start, insert_step, insert_done}
use Rattle.group.proofs.tally.insert_rows.Goals as goal

pub loop-j-init : goal.loop-j-init
loop-j-init c = insert_start c.requires.0 c.requires.1

pub loop-j-preserved : goal.loop-j-preserved
loop-j-preserved c =
    let s = c.copy_within in
    let w = c.put_row in
    insert_step c.requires.0 c.loop-j.invariant (c.loop-j.j - 1) (omega arith) s.new.self w.new.headers (w.auto.headers ∙ s.ensures.len) s.ensures.after w.ensures

pub returns : goal.returns
returns c = insert_done c.requires.0 c.loop-j.invariant c.loop-j-test.false
