-- The terms that came have their lines written, and the words behind them are left; a turn writes one term's line.
use Rattle.std.specs.Slice.Iter.{chunks_exact_rest, chunks_exact_size}
use Rattle.listing.specs.Families.{width_of, line_of}
use Rattle.listing.proofs.Rows.{RowsDone}
use Rattle.listing.proofs.output.Out.put_terms.Given as goal

abbrev pub invariant-loop-term : goal.invariant-loop-term
invariant-loop-term l =
    RowsDone (width_of l.family) (line_of l.family) l.terms l.initial.self
    (chunks_exact_size l.term-iterator) (chunks_exact_rest l.term-iterator) l.self
