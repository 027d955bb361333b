-- Work and pool are long enough, or refused; then the records are expanded, or one is refused; then their lists are grouped.
use mathlib.Core.Path.{◌∙◌}
use native.Mathlib.Omega.{arith}
use borrow.Author.Rules.{rules}
use Rattle.semantics.specs.Answer.{and_then}
use Rattle.semantics.specs.Check.{read_sheet}
use Rattle.semantics.proofs.Demands.{constraint_nodes}
use Rattle.constraint_lists.proofs.Walked.{all_held, constraints_grouping}
use Rattle.constraint_lists.proofs.Steps.{same_here, same_scratch, scratch_refused, walk_refused, walk_done, constraints_grouped}
use Rattle.constraint_lists.proofs.expand_checked.Goals as goal

pub returns-in_default : goal.returns-in_default
unfolding and_then
returns-in_default c = record {
  same = same_scratch c.args.scratch.now;
  lists = record {
    same = same_here c.args.outputs.now;
    inside = tt;
    answers = scratch_refused c.args.sheet.words.now _ _ _ _ _ _ _ c.check-checked.ensures c.unwrap_err.ensures;
  };
}

pub returns-in_default-walked : goal.returns-in_default-walked
unfolding and_then
returns-in_default-walked c =
    let w = c.walk_constraints-walked in
    let (enough, room) = c.in-Ok.ensures in record {
      same = search rules;
      lists = record {
        same = same_here c.args.outputs.now;
        inside = tt;
        answers =
            walk_refused c.args.sheet.words.now _ _ _ _ _ _ enough room _ (constraint_nodes (read_sheet c.args.sheet.words.now))
            w.result _ w.auto.pool w.ensures c.unwrap_err-in_default-walked.ensures;
      };
    }

pub group-requires : goal.group-requires
group-requires c =
    let w = c.walk_constraints-walked in
    (constraints_grouping c.args.sheet.words.now c.args.sheet.checked _ _ (all_held c.args.sheet.words.now _ _ c.in-Ok-walked.is w.ensures), omega arith)

pub returns : goal.returns
returns c =
    let ws = c.args.sheet.words.now in
    let w = c.walk_constraints-walked in
    let (enough, room) = c.in-Ok.ensures in
    let grouped = constraints_grouped ws c.group.ensures.0 c.group.result c.group.ensures.1 in record {
      same = search rules;
      lists = record {
        same = c.group.ensures.0;
        inside = grouped.1;
        answers =
            grouped.0
            ∙ walk_done ws _ _ _ _ _ _ enough room _ (constraint_nodes (read_sheet ws)) w.ensures.0 _
            w.auto.pool (all_held ws _ _ c.in-Ok-walked.is w.ensures);
      };
    }
