-- The check refuses the sheet, or finds it; then the lists of its constraints are made.
use mathlib.Core.Path.{◌∙◌}
use Rattle.semantics.specs.Answer.{and_then}
use Rattle.constraint_lists.proofs.Steps.{same_here, same_scratch}
use Rattle.expansion.proofs.Replies.{sheet_found, sheet_goes_on, sheet_refused}
use Rattle.expansion.proofs.expand_sheet.Goals as goal

pub returns-in_default : goal.returns-in_default
unfolding and_then
returns-in_default c = record {
  same = same_scratch c.args.scratch.now;
  lists = record {
    same = same_here c.args.outputs.now;
    inside = tt;
    answers = sheet_refused c.args.s.now _ c.check_sheet-checked.ensures c.unwrap_err.ensures;
  };
}

pub invariant_of-sheet : goal.invariant_of-sheet
invariant_of-sheet c = record { checked = sheet_found c.args.s.now c.check_sheet-checked.ensures c.in-Ok.is }

pub returns : goal.returns
returns c =
    let checked = sheet_found c.args.s.now c.check_sheet-checked.ensures c.in-Ok.is in
    let x = c.expand_checked.ensures in record {
      same = x.same;
      lists = record {
        same = x.lists.same;
        inside = x.lists.inside;
        answers = x.lists.answers ∙ sheet_goes_on c.args.s.now _ checked;
      };
    }
