-- The records that are named are added one after the other; the loop keeps what adding the first of them came to (`Naming`).
use Rattle.graph_walk.proofs.Rooting.{Naming}
use Rattle.graph_walk.proofs.Walk.add_references.Given as goal

abbrev pub invariant-loop-r : goal.invariant-loop-r
invariant-loop-r l = Naming l.initial.self l.names l.self l.r-index
