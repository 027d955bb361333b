-- The digits read so far make the value, and what is left of the input goes on with the same number, of as many bytes as are left.
use Rattle.std.proofs.Common.{◌-◌}
use Rattle.number_input.proofs.Reading.{ReadOn}
use Rattle.number_input.proofs.next_number.Given as goal

abbrev pub invariant-loop : goal.invariant-loop
invariant-loop g l = ReadOn g.N.Number.BYTES g.N.Number.CUT (g.R.Read.remaining l.initial.input) (l.end - l.counter) l.value (g.R.Read.remaining l.input)
