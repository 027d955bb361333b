-- The head of a checked sheet says how many there are.
use native.Mathlib.Omega.{arith}
use Rattle.records.proofs.Reading.{head_inside, head_counts}
use Rattle.records.proofs.CheckedSheet.num_records.Goals as goal

pub bounds-self-1 : goal.bounds-self-1
bounds-self-1 c = omega (arith, head_inside c.args.self.words.now c.args.self.checked)

pub returns : goal.returns
returns c = (head_counts c.args.self.words.now c.args.self.checked).0
