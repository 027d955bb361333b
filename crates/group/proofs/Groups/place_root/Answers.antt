-- The monomials of the record's list that are kept are placed (`record_asks`, `record_placed`).
use mathlib.Core.Path.{sym}
use Rattle.group.proofs.Placements.{record_asks, record_placed}
use Rattle.group.proofs.Groups.place_root.Goals as goal

pub place_list-requires : goal.place_list-requires
place_list-requires c =
    let a = c.args in
    rw c.of-list.ensures (record_asks a.label a.self.now.pool.now a.node a.self.now a.terms.now c.requires.0 c.requires.1)

pub returns : goal.returns
returns c =
    let a = c.args in
    record_placed a.label a.self.now.pool.now a.node (rw (sym c.of-list.ensures) c.place_list.ensures)
