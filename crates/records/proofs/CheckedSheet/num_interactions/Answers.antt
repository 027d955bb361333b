-- The head of a checked sheet says how many there are.
use native.Mathlib.Omega.{arith}
use Rattle.records.proofs.Reading.{head_inside, head_counts}
use Rattle.records.proofs.CheckedSheet.num_interactions.Goals as goal

pub bounds-self-3 : goal.bounds-self-3
bounds-self-3 c = omega (arith, head_inside c.args.self.words.now c.args.self.checked)

pub returns : goal.returns
returns c = (head_counts c.args.self.words.now c.args.self.checked).2
