use Rattle.graph_lists.proofs.Flags.{flagging_none, number_asks, number_inside, flagging_more}
use Rattle.graph_lists.proofs.flag_nodes.Goals as goal

pub loop-r-init : goal.loop-r-init
loop-r-init c = flagging_none c.requires

pub node_number-node-requires : goal.node_number-node-requires
node_number-node-requires c = number_asks c.requires c.loop-r.invariant c.loop-r-test.true

pub flag_node-requires : goal.flag_node-requires
flag_node-requires c = number_inside c.requires c.loop-r.invariant c.loop-r-test.true c.node_number-node.ensures

pub loop-r-preserved : goal.loop-r-preserved
loop-r-preserved c =
    flagging_more c.requires c.loop-r.invariant c.loop-r-test.true c.node_number-node.ensures _ c.flag_node.ensures
