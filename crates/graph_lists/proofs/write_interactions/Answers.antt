use mathlib.Core.Path.{◌∙◌}
use Rattle.graph_lists.proofs.Naming.{written_none, next_named, next_room, written_more, written_done}
use Rattle.graph_lists.proofs.write_interactions.Goals as goal

pub loop-x-init : goal.loop-x-init
loop-x-init c = written_none c.requires.0 (c.into_iter-x-iterator.ensures.into_iter_gives ∙ c.interactions-x-items.ensures)

pub write_interaction-next-requires : goal.write_interaction-next-requires
write_interaction-next-requires c =
    let h = c.loop-x.invariant in
    let room = c.requires.1 in
    let e = c.in-Some.ensures.steps in
    (next_named h room e, next_room h room e)

pub loop-x-preserved : goal.loop-x-preserved
loop-x-preserved c = written_more c.loop-x.invariant c.requires.1 c.in-Some.ensures.steps c.write_interaction-next.ensures

pub returns : goal.returns
returns c = written_done c.loop-x.invariant c.in-None.ensures.steps.0
