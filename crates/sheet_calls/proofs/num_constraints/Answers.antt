-- The check refuses the sheet, or finds it; then its C is handed back.
use mathlib.Core.Path.{ap}
use lib.ListN.{length}
use Rattle.semantics.specs.Arithmetic.{prime}
use Rattle.semantics.specs.Call.{num_constraints_call}
use Rattle.sheet.proofs.Answers.{found}
use Rattle.sheet_calls.proofs.Counts.{counted_refused, counted_found}
use Rattle.sheet.specs.declared.Head.{Head}
use Rattle.sheet_calls.proofs.num_constraints.Goals as goal

pub returns-in_default : goal.returns-in_default
unfolding num_constraints_call
returns-in_default c =
    counted_refused prime c.args.s.now (λ t. length t.constraints) c.check_sheet-checked.ensures
    c.unwrap_err.ensures

pub returns : goal.returns
unfolding num_constraints_call
returns c =
    let ws = c.args.s.now in
    let t = found prime ws c.check_sheet-checked.ensures c.in-Ok.is in
    counted_found prime ws (λ t. length t.constraints) t.1 (ap (λ (h : Head). h.constraints) t.2)
