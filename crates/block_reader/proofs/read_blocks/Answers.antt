-- The blocks are read, and what was not written is zeroed.
use mathlib.Core.Path.{◌∙◌}
use Rattle.answers.proofs.Outcomes.{finished}
use Rattle.block_reader.proofs.read_blocks.Goals as goal

pub returns : goal.returns
returns c =
    let read = c.read_all-read in
    finished read.result read.new.out c.zero_rest.ensures ∙ read.ensures
