-- A word of each row is added. The loop's invariant, `Summing`: the total and the words of the rows that are left give the sum of the column, and
-- the total is at most the largest word for each row passed; `summing_step` keeps it.
use Rattle.group.proofs.RowTotals.{Summing}
use Rattle.group.proofs.totals.column_total.Given as goal

abbrev pub invariant-loop-i : goal.invariant-loop-i
invariant-loop-i l = Summing l.word l.n l.headers l.total l.i
