-- Those that wait are put in from the last to the first. The loop's invariant, `Inserting`: with the gap left out that is kept for the `j` still to
-- come, the words are the rows with the others put in among them (`insert_step` keeps it); at the end there is no gap (`insert_done`).
use Rattle.group.proofs.Inserts.{Inserting}
use Rattle.group.proofs.tally.insert_rows.Given as goal

abbrev pub invariant-loop-j : goal.invariant-loop-j
invariant-loop-j l = Inserting l.initial.headers l.n l.pool l.waits.places l.waits.count l.headers l.end l.j
