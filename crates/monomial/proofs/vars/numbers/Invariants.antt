-- The numbers are stored one by one. The loop's invariant: the first i are those of the variables.
use mathlib.Core.Path.{◌≡◌}
use lib.ListN.{length, take}
use Rattle.monomial.specs.Words.{nums}
use Rattle.monomial.proofs.vars.numbers.Given as goal

abbrev pub invariant-loop-i : goal.invariant-loop-i
invariant-loop-i l = (length l.fn.vars ≡ 14) × (length l.numbers ≡ 14) × (take l.i l.numbers ≡ take l.i (nums l.fn.vars))
