-- The fourth word says how many follow.
use native.Mathlib.Omega.{arith}
use Rattle.records.proofs.Standing.{length_read}
use Rattle.records.proofs.interactions.Interaction.word_count.Goals as goal

pub returns : goal.returns
returns c =
    let x = c.args.self.now in
    omega (arith, x.whole, length_read x.words.now x.whole)
