-- The variables of each monomial are counted, and the most is kept. The loop's invariant is `Longest`: the larger of the most so far and the longest
-- of what is left is the longest of all; `longest_more` keeps it.
use Prim.Native.Nat.{◌-◌}
use Rattle.monomial.specs.Words.{longest_of}
use Rattle.monomial.proofs.Sizes.{Longest}
use Rattle.monomial.proofs.reading.Monomials.longest.Given as goal

abbrev pub invariant-loop : goal.invariant-loop
invariant-loop l = Longest l.self-inside.words.now (longest_of l.self) l.most l.at (l.self-inside.count - l.counter)
