-- A record that is expanded already changes nothing; another one is finished after a loop over its children, which keeps how far the expansion
-- of the first i of them has come (`Children`), and a refusal inside ends it. The measure is the record's number, since a child's is lower.
use Rattle.expand.proofs.Expanding.{Children}
use Rattle.expand.proofs.Walk.+expand_node.Given as goal

abbrev pub decreases-expand_node : goal.decreases-expand_node
decreases-expand_node l = l.r

abbrev pub invariant-loop-i : goal.invariant-loop-i
invariant-loop-i l = Children l.initial.self l.r l.self l.i
