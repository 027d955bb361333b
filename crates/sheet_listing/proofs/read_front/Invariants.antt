-- As long as the buffer has room. Kept: the bytes read so far stand in front, and the input gave no others.
use Rattle.std.proofs.Common.{◌-◌, length}
use Rattle.sheet_listing.proofs.Reading.{Taken}
use Rattle.sheet_listing.proofs.read_front.Given as goal

abbrev pub invariant-loop-n : goal.invariant-loop-n
invariant-loop-n g l = Taken (g.R.Read.remaining l.initial.input) (g.R.Read.remaining l.input) l.buffer l.n

abbrev pub decreases-loop-n : goal.decreases-loop-n
decreases-loop-n g l = length l.initial.buffer - l.n
