-- Sixteen headers at a time, or as many as are left. Kept: the headers so far have their offsets, and the totals over them are known.
use Rattle.header_offsets.proofs.Chunks.{Filled}
use Rattle.header_offsets.proofs.words.fill_words.Given as goal

abbrev pub invariant-loop-i : goal.invariant-loop-i
invariant-loop-i l = Filled l.initial.words l.n l.words l.vars l.terms l.i
