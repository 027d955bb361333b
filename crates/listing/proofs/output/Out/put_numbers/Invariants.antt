-- After i numbers those are written and the others are left; a turn writes a space and one of them.
use Rattle.semantics.specs.Sheetlist.{decimal}
use Rattle.listing.proofs.Writing.{SpacedDone}
use Rattle.listing.proofs.output.Out.put_numbers.Given as goal

abbrev pub invariant-loop-n : goal.invariant-loop-n
invariant-loop-n l = SpacedDone decimal l.numbers l.initial.self l.n-index l.self
