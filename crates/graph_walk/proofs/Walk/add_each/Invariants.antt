-- What the interactions name is added, one interaction after the other; the loop keeps what adding the first of them came to (`Rooting`).
use Rattle.graph_walk.proofs.Rooting.{Rooting}
use Rattle.graph_walk.proofs.Walk.add_each.Given as goal

abbrev pub invariant-loop-x : goal.invariant-loop-x
invariant-loop-x l = Rooting l.initial.self l.fn.interactions l.self l.x-iterator
