-- The counts are grouped, then the fields, then the longest message is found. Of each family: what was written, and that the slices stay
-- the same.
use Rattle.semantics.specs.Answer.{and_then}
use Rattle.semantics.specs.Call.{result}
use Rattle.constraint_lists.proofs.Steps.{same_here}
use Rattle.interaction_lists.proofs.Steps.{counts_refused, fields_refused, all_written, all_inside}
use Rattle.interaction_lists.proofs.group_interactions.Goals as goal

pub returns-in_default : goal.returns-in_default
unfolding and_then
returns-in_default c =
    let g = c.group-counted.ensures in
    let same = same_here c.args.denominators.now in record {
      numerators = g.0;
      denominators = same;
      answers = counts_refused c.args.sheet.words.now g.0 same _ g.1 c.unwrap_err.ensures;
      inside = tt;
    }

pub returns-in_default-listed : goal.returns-in_default-listed
unfolding and_then
returns-in_default-listed c =
    let g = c.group-counted.ensures in
    let f = c.group-listed.ensures in record {
      numerators = g.0;
      denominators = f.0;
      answers = fields_refused c.args.sheet.words.now g.0 f.0 _ g.1 _ c.in-Ok.is _ f.1 c.unwrap_err-in_default-listed.ensures;
      inside = tt;
    }

pub returns : goal.returns
unfolding and_then result
returns c =
    let g = c.group-counted.ensures in
    let f = c.group-listed.ensures in record {
      numerators = g.0;
      denominators = f.0;
      answers =
          all_written c.args.sheet.words.now g.0 f.0 _ g.1 _ c.in-Ok.is _ f.1 _ c.in-Ok-listed.is c.num_interactions-interactions.ensures c.max_fields_len-longest.ensures;
      inside = all_inside c.args.sheet.words.now g.0 f.0 _ g.1 _ c.in-Ok.is _ f.1 _ c.in-Ok-listed.is;
    }
