-- A record that is added already changes nothing; another one is added after a loop over its children, which keeps what visiting the first i
-- of them came to (`Children`). The measure is the record's number, since a child's is lower.
use Rattle.graph_walk.proofs.Visits.{Children}
use Rattle.graph_walk.proofs.Walk.+add_expr.Given as goal

abbrev pub decreases-add_expr : goal.decreases-add_expr
decreases-add_expr l = l.r

abbrev pub invariant-loop-i : goal.invariant-loop-i
invariant-loop-i l = Children l.initial.self l.r l.self l.i
