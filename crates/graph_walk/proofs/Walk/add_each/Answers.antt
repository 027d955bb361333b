use Rattle.graph_walk.proofs.Rooting.{rooting_none, rooting_walking, rooting_done, fields_inside, count_ready, rooting_more}
use Rattle.graph_walk.proofs.Walk.add_each.Goals as goal

pub loop-x-init : goal.loop-x-init
loop-x-init c = rooting_none c.into_iter-x-iterator.ensures.into_iter_gives

pub add_references-requires : goal.add_references-requires
add_references-requires c =
    let h = c.loop-x.invariant in
    (rooting_walking c.requires h, fields_inside c.requires h c.in-Some.ensures.steps c.fields.ensures)

pub add_expr-requires : goal.add_expr-requires
add_expr-requires c = count_ready c.requires c.loop-x.invariant c.in-Some.ensures.steps c.fields.ensures c.add_references.ensures c.count.ensures

pub loop-x-preserved : goal.loop-x-preserved
loop-x-preserved c =
    rooting_more c.requires c.loop-x.invariant c.in-Some.ensures.steps c.fields.ensures c.add_references.ensures c.count.ensures c.add_expr.ensures

pub returns : goal.returns
returns c = rooting_done c.requires c.loop-x.invariant c.in-None.ensures.steps.0
