-- The rows' variables are written row after row. The loop's invariant, `Written`: the variables of the first `i` rows stand in front, up to `at`, and
-- the rest is as it was; `written_more` keeps it, and at the end all are written (`written_all`).
use Rattle.group.specs.Grouped.{tallied}
use Rattle.group.proofs.RowVariables.{Written}
use Rattle.group.proofs.place.write_variables.Given as goal

abbrev pub invariant-loop-i : goal.invariant-loop-i
invariant-loop-i l = Written (tallied l.n l.headers l.pool) l.initial.variables l.variables l.at l.i
