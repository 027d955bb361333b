-- The interactions start where the constraints end.
use Rattle.records.proofs.Reading.{places_small}
use native.Mathlib.Omega.{arith}
use Rattle.records.proofs.CheckedSheet.interactions_at.Goals as goal

pub overflow_add-result : goal.overflow_add-result
overflow_add-result c =
    omega (arith, c.num_constraints.ensures, c.constraints_at.ensures, (places_small c.args.self.words.now c.args.self.checked).1)
