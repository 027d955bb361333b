-- After i variables those are written and the others are left; a turn writes a space and one of them.
use Rattle.semantics.specs.Sheetlist.{hex_digits}
use Rattle.listing.proofs.Writing.{SpacedDone}
use Rattle.listing.proofs.output.Out.put_variables.Given as goal

abbrev pub invariant-loop-v : goal.invariant-loop-v
invariant-loop-v l = SpacedDone (hex_digits 8) l.variables l.initial.self l.v-index l.self
