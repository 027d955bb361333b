-- Scratch is passed in ascending order: a flagged node is written and plain again. The loop keeps that of the entries before `node` (`Swept`).
use Rattle.graph_lists.proofs.Sweeps.{Swept}
use Rattle.graph_lists.proofs.write_flagged.Given as goal

abbrev pub invariant-loop-node : goal.invariant-loop-node
invariant-loop-node l = Swept l.initial.scratch l.initial.out l.at l.nodes l.scratch l.out l.next l.node
