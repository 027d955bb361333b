-- The loop's invariant: the first `i` elements are the first `k` as they were and then the one value.
use Rattle.std.proofs.Common.{◌≡◌, ◌++◌, ◌-◌, length, take, replicate}
use Rattle.slices.proofs.fill_from.Given as goal

abbrev pub invariant-loop-i : goal.invariant-loop-i
invariant-loop-i g l = (length l.s ≡ length l.initial.s) × (take l.i l.s ≡ take l.k l.initial.s ++ replicate (l.i - l.k) l.value)
