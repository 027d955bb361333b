-- The interactions are written one behind the other; the loop keeps that what is written and what is left make the whole (`Written`).
use Rattle.graph_lists.proofs.Naming.{Written}
use Rattle.graph_lists.proofs.write_interactions.Given as goal

abbrev pub invariant-loop-x : goal.invariant-loop-x
invariant-loop-x l = Written l.sheet.words.now l.scratch l.initial.out l.to l.out l.next l.x-iterator
