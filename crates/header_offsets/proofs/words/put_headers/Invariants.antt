-- After j headers their words are put; a turn puts one header's.
use Rattle.header_offsets.proofs.HeaderWords.{Put}
use Rattle.header_offsets.proofs.words.put_headers.Given as goal

abbrev pub invariant-loop-j : goal.invariant-loop-j
invariant-loop-j l = Put l.initial.words l.at l.headers l.j l.words
