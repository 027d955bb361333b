-- The monomials of the list that are kept are counted or wait. The loop's invariant, `Tallying`: counting what is left of the list into the rows and
-- those that wait gives what counting the whole list gives; `tallying_step` keeps it.
use Rattle.group.proofs.Tallying.{Tallying}
use Rattle.group.proofs.Groups.tally_root.Given as goal

abbrev pub invariant-loop-at : goal.invariant-loop-at
invariant-loop-at l = Tallying l.initial.self l.node l.self l.waits l.at-iterator
