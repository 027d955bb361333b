-- What the constraints name is added, then what the interactions name, then the lists are written. Of each stage: scratch and output are what
-- the walk so far leaves, and the output keeps its length.
use borrow.Author.Rules.{rules}
use Rattle.dag.proofs.Starts.{room, start_walking, names_below, walking_next, finishing}
use Rattle.dag.proofs.graph.build_graph.Goals as goal

pub new-walk-requires : goal.new-walk-requires
new-walk-requires c = room c.args.sheet.checked c.requires

pub add_references-requires : goal.add_references-requires
add_references-requires c =
    let t = c.new-walk.ensures.starts in
    (start_walking c.args.sheet.checked c.requires t, names_below c.args.sheet.checked c.requires t c.constraints.ensures)

pub add_each-requires : goal.add_each-requires
add_each-requires c =
    walking_next c.args.sheet.checked c.requires c.new-walk.ensures.starts c.constraints.ensures c.add_references.ensures c.interactions.ensures

pub write_graph-requires : goal.write_graph-requires
write_graph-requires c =
    let u = c.new-walk.ensures in
    let f = c.add_references.ensures in
    let g = c.add_each.ensures in
    let s₀ = u.scratch in
    let s₁ = f.0.scratch in
    let s₂ = g.0.scratch in
    let o₀ = u.out in
    let o₁ = f.0.out in
    let o₂ = g.0.out in
    finishing c.args.sheet.checked c.requires u.starts c.constraints.ensures f c.interactions.ensures g (search rules) (search rules) c.count-n.ensures
