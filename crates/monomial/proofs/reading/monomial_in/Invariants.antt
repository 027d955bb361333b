-- The variables are counted, and as many are copied. The loop's invariant: the first i variables are the words from the third on, kept by
-- `filled_more`.
use mathlib.Core.Path.{◌≡◌}
use Prim.Native.Nat.{◌+◌, ◌≤◌}
use lib.ListN.{length, take, drop}
use Rattle.monomial.specs.Words.{nums}
use Rattle.monomial.proofs.reading.monomial_in.Given as goal

abbrev pub invariant-loop-i : goal.invariant-loop-i
invariant-loop-i l =
    (l.count ≤ 14) × (l.at + 2 + l.count ≤ length l.words) × (length l.vars ≡ 14) × (take l.i (nums l.vars) ≡ take l.i (drop (l.at + 2) l.words))
