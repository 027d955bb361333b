-- In each turn a header gets its offsets, and its two numbers are added to the totals. The loop's invariant: the headers passed with what those that are
-- left would get from these totals are all the offsets, and the totals with all that is left fit (`Filling`).
use Rattle.header_offsets.proofs.Filling.{Filling}
use Rattle.header_offsets.proofs.fill_offsets.Given as goal

abbrev pub invariant-loop-h : goal.invariant-loop-h
invariant-loop-h l = Filling l.initial.headers l.var_offset l.term_offset l.h-index l.headers l.vars l.terms
