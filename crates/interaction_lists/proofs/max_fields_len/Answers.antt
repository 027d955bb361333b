use mathlib.Core.Path.{◌∙◌}
use native.Mathlib.Omega.{arith}
use Rattle.interaction_lists.proofs.Messages.{looking_none, looking_more, looking_done}
use Rattle.interaction_lists.proofs.max_fields_len.Goals as goal

pub loop-x-init : goal.loop-x-init
loop-x-init c = looking_none (c.into_iter-x-iterator.ensures.into_iter_gives ∙ c.interactions-x-items.ensures)

pub loop-x-preserved : goal.loop-x-preserved
loop-x-preserved c = looking_more c.loop-x.invariant c.in-Some.ensures.steps (omega (arith, c.max-most.ensures, c.message_length.ensures))

pub returns : goal.returns
returns c = looking_done c.loop-x.invariant c.in-None.ensures.steps.0
