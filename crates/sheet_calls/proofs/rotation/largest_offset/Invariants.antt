-- Record by record. Kept: the larger of the offset so far and of those that are left is the largest of all.
use Rattle.sheet_calls.proofs.Offsets.{Largest}
use Rattle.sheet_calls.proofs.rotation.largest_offset.Given as goal

abbrev pub invariant-loop-i : goal.invariant-loop-i
invariant-loop-i l = Largest l.s l.records l.i l.most
