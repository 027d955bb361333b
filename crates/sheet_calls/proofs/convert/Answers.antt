-- The words are copied, and what was not written is zeroed.
use mathlib.Core.Path.{◌∙◌}
use Rattle.answers.proofs.Outcomes.{finished}
use Rattle.sheet_calls.proofs.convert.Goals as goal

pub returns : goal.returns
returns c =
    let copy = c.copy_sheet-copied in
    finished copy.result copy.new.out c.zero_rest.ensures ∙ copy.ensures
