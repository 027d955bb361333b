-- Each monomial of the list is summed with its sign. The loop's invariant is `Adding`: what is summed, with the monomials that are left, gives the
-- sum of all; `adding_more` keeps it.
use Rattle.monomial.specs.Signs.{signed}
use Rattle.monomial.proofs.Summing.{Adding}
use Rattle.monomial.proofs.work_list.WorkList.sum_all.Given as goal

abbrev pub invariant-loop-m : goal.invariant-loop-m
invariant-loop-m l = Adding l.initial.self (signed l.sign l.fn.list) (signed l.sign l.m-iterator) l.self
