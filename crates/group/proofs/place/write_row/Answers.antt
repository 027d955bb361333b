-- The row has as many variables as its word says (`room_wide`), and they are written at once (`part_written`).
use mathlib.Core.Path.{refl, ap, ◌∙◌}
use mathlib.Core.List.{List, ◌++◌}
use Prim.Native.Nat.{ℕ, ◌+◌, ◌-◌, ◌≤◌}
use native.Mathlib.Omega.{arith}
use lib.ListN.{length, take, drop}
use Rattle.slices.proofs.Laws.{copied_whole}
use Rattle.header_offsets.proofs.Written.{part_written}
use Rattle.group.proofs.RowVariables.{room_wide}
use Rattle.group.proofs.place.write_row.Goals as goal

pub returns-clause-next : goal.returns-clause-next
returns-clause-next c =
    let a = c.args in
    let n = room_wide a.i a.headers.now a.pool.now c.requires.1 in
    let e = ap length c.row_vars-vars.ensures in
    omega arith

pub returns-clause-written : goal.returns-clause-written
returns-clause-written c =
    let a = c.args in
    let V = a.variables.now in
    let u = c.row_vars-vars in
    let n = room_wide a.i a.headers.now a.pool.now c.requires.1 in
    let room : a.at + length u.result.now ≤ length V = omega (arith, c.requires.2, n, ap length u.ensures) in
    let whole = copied_whole u.result.now c.copy_front.new.out (take (a.at + length u.result.now - a.at) (drop a.at V)) (omega (arith, room)) c.copy_front.ensures in
    let w = part_written V c.copy_front.new.out u.result.now a.at (a.at + length u.result.now) whole refl room in
    w ∙ ap (λ (vs : List ℕ). take a.at V ++ (vs ++ drop (a.at + length u.result.now) V)) u.ensures
