-- The records that are named are expanded one after the other; the loop keeps how far the expansion has come (`Naming`). A refusal is the answer
-- for all that are left.
use Rattle.expand.proofs.Expanding.{Naming}
use Rattle.expand.proofs.Walk.expand_references.Given as goal

abbrev pub invariant-loop-r : goal.invariant-loop-r
invariant-loop-r l = Naming l.initial.self l.names l.self l.r-index
