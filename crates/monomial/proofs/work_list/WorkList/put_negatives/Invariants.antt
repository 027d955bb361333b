-- The negative of each monomial of the list is put behind the others. The loop's invariant is `Negating`: the negatives so far and those of the
-- monomials that are left are those of all; `negating_more` keeps it.
use Rattle.monomial.proofs.Summing.{Negating}
use Rattle.monomial.proofs.work_list.WorkList.put_negatives.Given as goal

abbrev pub invariant-loop-m : goal.invariant-loop-m
invariant-loop-m l = Negating l.initial.self l.fn.list l.m-iterator l.self
