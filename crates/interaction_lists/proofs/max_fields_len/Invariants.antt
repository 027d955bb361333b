-- Interaction by interaction. Kept: the largest length so far and those of the rest give the largest of all.
use Rattle.interaction_lists.proofs.Messages.{Looking}
use Rattle.interaction_lists.proofs.max_fields_len.Given as goal

abbrev pub invariant-loop-x : goal.invariant-loop-x
invariant-loop-x l = Looking l.fn.sheet.words.now l.most l.x-iterator
