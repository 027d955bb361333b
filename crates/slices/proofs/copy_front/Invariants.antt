-- The loop's invariant: the first `i` elements are the list's, and from there on they are what they were.
use Rattle.std.proofs.Common.{◌≡◌, length, take, drop}
use Rattle.slices.proofs.copy_front.Given as goal

abbrev pub invariant-loop-i : goal.invariant-loop-i
invariant-loop-i g l = (length l.out ≡ length l.initial.out) × (take l.i l.out ≡ take l.i l.list) × (drop l.i l.out ≡ drop l.i l.initial.out)
