-- The monomials are written one behind the other. The loop's invariant is `Written`: the words of those so far stand in front, and behind them what
-- stood there; `written_more` keeps it.
use Prim.Native.Nat.{◌≤◌}
use Rattle.monomial.specs.Words.{held}
use Rattle.monomial.proofs.Sizes.{Written}
use Rattle.monomial.proofs.lists.write_list.Given as goal

abbrev pub invariant-loop-k : goal.invariant-loop-k
invariant-loop-k l = (l.k ≤ l.count) × Written (held l.count l.work) l.initial.out l.out l.at l.k
