-- Scratch and output are zeros, so the walk starts as the builder's does.
use mathlib.Core.Path.{◌≡◌, refl}
use mathlib.Core.List.{List}
use Prim.Native.Nat.{ℕ, ◌≤◌}
use lib.ListN.{length, take}
use Rattle.semantics.specs.Sheet.{length_of}
use Rattle.semantics.specs.Check.{read_sheet}
use Rattle.semantics.specs.Call.{zeros}
use Rattle.records.specs.Access.{IsSheet, records_of}
use Rattle.dag.specs.Calls.{Starting}
use Rattle.dag.proofs.Outcomes.{sheet_found, starting}
use Rattle.dag.proofs.Starts.{room, start_walking}
use Rattle.walk_tests.proofs.tests.nodes_added.Goals as goal

pub invariant_of-sheet : goal.invariant_of-sheet
invariant_of-sheet c = record { checked = (sheet_found c.args.words.now c.check_sheet-checked.ensures c.in-Ok.is).0 }

starts : {ws : List ℕ} (checked : IsSheet ws) {records words : ℕ} → records ≡ length (records_of ws) → words ≡ length_of (read_sheet ws) → records ≤ 8 → words ≤ 48
    → Starting ws (take records (zeros 8)) (zeros 48)
unfolding zeros
starts checked r w l k = starting checked r (record { words_are = w; scratch_is = refl; out_is = refl }) l k

pub new-walk-requires : goal.new-walk-requires
unfolding zeros
new-walk-requires c =
    let f = sheet_found c.args.words.now c.check_sheet-checked.ensures c.in-Ok.is in
    room f.0 (starts f.0 c.num_records-records.ensures f.1 c.if-records-gt8.false c.if-head-gt48.false)

pub add_interactions-requires : goal.add_interactions-requires
unfolding zeros
add_interactions-requires c =
    let f = sheet_found c.args.words.now c.check_sheet-checked.ensures c.in-Ok.is in
    start_walking f.0 (starts f.0 c.num_records-records.ensures f.1 c.if-records-gt8.false c.if-head-gt48.false) c.new-walk.ensures.starts
