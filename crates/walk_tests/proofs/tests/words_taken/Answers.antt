-- The heads of the pool are cleared, so the walk starts as an expansion's does.
use Rattle.constraint_lists.proofs.Walked.{walk_starts}
use Rattle.dag.proofs.Outcomes.{sheet_found}
use Rattle.walk_tests.proofs.tests.words_taken.Goals as goal

pub invariant_of-sheet : goal.invariant_of-sheet
invariant_of-sheet c = record { checked = (sheet_found c.args.words.now c.check_sheet-checked.ensures c.in-Ok.is).0 }

pub expand_part-requires : goal.expand_part-requires
expand_part-requires c = walk_starts c.args.words.now _ c.num_records-records.ensures _ c.clear_heads.ensures c.new-walk.ensures.starts
