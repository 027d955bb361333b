-- The headers that came are written with their terms, and the words behind them are left, whose headers stand inside the lists; a turn writes one header.
use Rattle.std.specs.Slice.Iter.{chunks_exact_rest, chunks_exact_size}
use Rattle.listing.specs.Families.{width_of, header_of, HeadersInside}
use Rattle.listing.proofs.Rows.{RowsDone}
use Rattle.listing.proofs.output.Out.put_headers.Given as goal

abbrev pub invariant-loop-header : goal.invariant-loop-header
invariant-loop-header l =
    HeadersInside (width_of l.family) (chunks_exact_rest l.header-iterator) l.lists.variables.now l.lists.terms.now
    × RowsDone 4 (header_of l.family l.lists.variables.now l.lists.terms.now) l.lists.headers.now l.initial.self (chunks_exact_size l.header-iterator)
    (chunks_exact_rest l.header-iterator) l.self
