use Rattle.graph_walk.proofs.Rooting.{naming_none, naming_ready, naming_more}
use Rattle.graph_walk.proofs.Walk.add_references.Goals as goal

pub loop-r-init : goal.loop-r-init
loop-r-init c = naming_none

pub add_expr-requires : goal.add_expr-requires
add_expr-requires c = let p = c.requires in naming_ready p.0 p.1 c.loop-r.invariant c.loop-r-test.true

pub loop-r-preserved : goal.loop-r-preserved
loop-r-preserved c = let p = c.requires in naming_more p.0 p.1 c.loop-r.invariant c.loop-r-test.true c.add_expr.ensures
