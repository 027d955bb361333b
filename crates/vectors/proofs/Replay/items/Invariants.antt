-- No more items differ than were replayed.
use Rattle.std.proofs.Common.{◌≤◌}
use Rattle.vectors.proofs.Replay.items.Given as goal

abbrev pub invariant-loop-i : goal.invariant-loop-i
invariant-loop-i g l = l.differ ≤ l.i-counter
