-- Work and pool are asked for, all records are walked, then both families are grouped. Once all is walked, the pool holds the lists of all
-- counts and fields.
use mathlib.Core.Path.{◌∙◌}
use borrow.Author.Rules.{rules}
use Rattle.semantics.specs.Answer.{and_then}
use Rattle.semantics.specs.Check.{read_sheet}
use Rattle.constraint_lists.proofs.Walked.{all_held}
use Rattle.constraint_lists.proofs.Steps.{same_here, same_scratch, scratch_refused, walk_refused, walk_done}
use Rattle.interaction_lists.proofs.Walked.{counts_grouping, fields_grouping}
use Rattle.interaction_lists.proofs.Steps.{named}
use Rattle.interaction_lists.proofs.expand_checked.Goals as goal

pub returns-in_default : goal.returns-in_default
unfolding and_then
returns-in_default c = record {
  same = same_scratch c.args.scratch.now;
  lists = record {
    numerators = same_here c.args.numerators.now;
    denominators = same_here c.args.denominators.now;
    inside = tt;
    answers = scratch_refused c.args.sheet.words.now _ _ _ _ _ _ _ c.check-checked.ensures c.unwrap_err.ensures;
  };
}

pub returns-in_default-walked : goal.returns-in_default-walked
unfolding and_then
returns-in_default-walked c =
    let w = c.walk_interactions-walked in
    let (enough, room) = c.in-Ok.ensures in record {
      same = search rules;
      lists = record {
        numerators = same_here c.args.numerators.now;
        denominators = same_here c.args.denominators.now;
        inside = tt;
        answers =
            walk_refused c.args.sheet.words.now _ _ _ _ _ _ enough room _ (named (read_sheet c.args.sheet.words.now))
            w.result _ w.auto.pool w.ensures c.unwrap_err-in_default-walked.ensures;
      };
    }

pub group_interactions-requires : goal.group_interactions-requires
group_interactions-requires c =
    let ws = c.args.sheet.words.now in
    let held = all_held ws _ _ c.in-Ok-walked.is c.walk_interactions-walked.ensures in (
      counts_grouping ws c.args.sheet.checked _ _ held,
      fields_grouping ws c.args.sheet.checked _ _ held,
    )

pub returns : goal.returns
returns c =
    let ws = c.args.sheet.words.now in
    let w = c.walk_interactions-walked in
    let (enough, room) = c.in-Ok.ensures in
    let g = c.group_interactions.ensures in record {
      same = search rules;
      lists = record {
        numerators = g.numerators;
        denominators = g.denominators;
        inside = g.inside;
        answers =
            g.answers
            ∙ walk_done ws _ _ _ _ _ _ enough room _ (named (read_sheet ws)) w.ensures.0 _
            w.auto.pool (all_held ws _ _ c.in-Ok-walked.is w.ensures);
      };
    }
