-- The lists are made, then work and pool are zeroed, then the outputs behind their lists, first the numerators'. Every slice keeps its
-- length.
use Rattle.std.proofs.Common.{rules}
use Rattle.expansion.proofs.Replies.{interaction_done}
use Rattle.expansion.proofs.expand_interactions.Goals as goal

pub returns : goal.returns
returns c =
    interaction_done c.args.s.now c.expand_sheet_interactions-lists.ensures.lists {kept = c.unwrap_or_default-kept.result} (search rules) (search rules) (search rules)
    (search rules, search rules, search rules) (search rules, search rules, search rules)
