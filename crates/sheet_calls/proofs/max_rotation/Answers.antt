-- The check refuses the sheet, or finds it; then the largest offset of its records is handed back.
use mathlib.Core.Path.{◌≡◌, ◌∙◌}
use Rattle.semantics.specs.Arithmetic.{prime}
use Rattle.semantics.specs.Answer.{good}
use Rattle.semantics.specs.Sheet.{Sheet}
use Rattle.semantics.specs.Check.{check}
use Rattle.semantics.specs.Graph.{max_rotation}
use Rattle.semantics.specs.Call.{max_rotation_call}
use Rattle.sheet.proofs.Answers.{head_of, found}
use Rattle.sheet_calls.proofs.Counts.{counted_refused, counted_found}
use Rattle.sheet_calls.proofs.Offsets.{records_fit, largest_is}
use Rattle.sheet_calls.proofs.max_rotation.Goals as goal

pub returns-in_default : goal.returns-in_default
unfolding max_rotation_call
returns-in_default c =
    counted_refused prime c.args.s.now max_rotation c.check_sheet-checked.ensures c.unwrap_err.ensures

pub largest_offset-requires : goal.largest_offset-requires
largest_offset-requires c =
    let sheet : (t : Sheet) × (check prime c.args.s.now ≡ good t) × (c.in-Ok.head ≡ head_of t) =
    found prime c.args.s.now c.check_sheet-checked.ensures c.in-Ok.is in
    records_fit prime c.args.s.now sheet.1 sheet.2

pub returns : goal.returns
unfolding max_rotation_call
returns c =
    let sheet : (t : Sheet) × (check prime c.args.s.now ≡ good t) × (c.in-Ok.head ≡ head_of t) =
    found prime c.args.s.now c.check_sheet-checked.ensures c.in-Ok.is in
    let t = sheet in
    counted_found prime c.args.s.now max_rotation t.1 (c.largest_offset.ensures ∙ largest_is prime c.args.s.now t.1 t.2)
