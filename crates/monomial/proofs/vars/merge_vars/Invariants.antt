-- The next variable of the two lists is written, until none is left. The loop's invariant, `MergedTo`: what is written and what remains are the
-- two lists merged; `right_taken` and `left_taken` keep it.
use Rattle.monomial.proofs.Merging.{MergedTo}
use Rattle.monomial.proofs.vars.merge_vars.Given as goal

abbrev pub invariant-loop-k : goal.invariant-loop-k
invariant-loop-k l = MergedTo l.a l.b l.r l.i l.n l.k l.m
