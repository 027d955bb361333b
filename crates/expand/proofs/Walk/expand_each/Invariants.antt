-- A part of each interaction is expanded, one interaction after the other; the loop keeps how far the expansion has come (`Passing`). A refusal is
-- the answer for all that are left.
use Rattle.expand.proofs.Roots.{Passing}
use Rattle.expand.proofs.Walk.expand_each.Given as goal

abbrev pub invariant-loop-x : goal.invariant-loop-x
invariant-loop-x l = Passing l.part l.initial.self l.fn.interactions l.self l.x-iterator
