use Rattle.graph_lists.proofs.Sweeps.{swept_none, swept_inside, swept_taken, swept_passed}
use Rattle.graph_lists.proofs.write_flagged.Goals as goal
use Rattle.graph_lists.proofs.write_flagged.Goals.{then-scratch-node-ge-FLAG, else-scratch-node-ge-FLAG}

pub loop-node-init : goal.loop-node-init
loop-node-init c = let a = c.args in swept_none a.scratch.now a.out.now a.at a.nodes

pub bounds-out-next : goal.bounds-out-next
bounds-out-next c =
    let p = c.requires in
    swept_inside c.loop-node.invariant p.0 p.2 c.loop-node-test.true c.if-scratch-node-ge-FLAG.true

pub loop-node-preserved : goal.loop-node-preserved
loop-node-preserved c =
    let p = c.requires in
    let h = c.loop-node.invariant in
    let l = c.loop-node-test.true in
    elim c.if-scratch-node-ge-FLAG.branch [
      | then-scratch-node-ge-FLAG w ↦ swept_taken h p.0 p.2 l w.if-scratch-node-ge-FLAG.true _ _ _ w.scratch-is w.out-is w.next-is
      | else-scratch-node-ge-FLAG w ↦ swept_passed h p.0 p.2 l w.if-scratch-node-ge-FLAG.false _ _ _ w.scratch-is w.out-is w.next-is
    ]
