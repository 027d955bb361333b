-- Header by header. Kept: the headers so far are those that the words from `at` on hold, and the others are empty.
use lib.ListN.{drop}
use Rattle.header_offsets.proofs.HeaderWords.{Taken}
use Rattle.header_offsets.proofs.words.take_headers.Given as goal

abbrev pub invariant-loop-j : goal.invariant-loop-j
invariant-loop-j l = Taken (drop l.at l.words) l.j l.headers
