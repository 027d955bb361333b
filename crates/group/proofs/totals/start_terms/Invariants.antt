-- The total so far is written into each row. The loop's invariant, `Running`: the rows passed, and those that are left with the totals that they are
-- to get, are the rows with all totals written; `running_step` keeps it, and the sum of the column bounds the total (`running_small`).
use Rattle.group.proofs.RowTotals.{Running}
use Rattle.group.proofs.totals.start_terms.Given as goal

abbrev pub invariant-loop-i : goal.invariant-loop-i
invariant-loop-i l = Running l.initial.headers l.n 1 3 l.headers l.total l.i
