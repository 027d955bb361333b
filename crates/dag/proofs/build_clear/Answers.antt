-- The check refuses the sheet, or finds it; then what is lent is a checked sheet with slices of zeros, and its graph is built.
use mathlib.Core.Path.{ap, ◌∙◌}
use lib.ListN.{length}
use Rattle.semantics.specs.Call.{zeros}
use Rattle.std.specs.Prelude.{Err}
use Rattle.dag.specs.Calls.{built_outcome}
use Rattle.dag.proofs.Outcomes.{sheet_found, call_refused}
use Rattle.dag.proofs.build_clear.Goals as goal

pub returns-in_default : goal.returns-in_default
returns-in_default c =
    let a = c.args in
    ap (built_outcome (Err c.unwrap_err.result) (zeros (length a.scratch.now))) c.requires.1
    ∙ call_refused a.s.now (length a.scratch.now) (length a.out.now) c.check_sheet-checked.ensures c.unwrap_err.ensures

pub invariant_of-sheet : goal.invariant_of-sheet
invariant_of-sheet c = record { checked = (sheet_found c.args.s.now c.check_sheet-checked.ensures c.in-Ok.is).0 }

pub build_checked-requires : goal.build_checked-requires
build_checked-requires c = record {
  words_are = (sheet_found c.args.s.now c.check_sheet-checked.ensures c.in-Ok.is).1;
  scratch_is = c.requires.0;
  out_is = c.requires.1;
}
