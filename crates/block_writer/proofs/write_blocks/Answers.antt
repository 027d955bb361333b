-- The blocks are written, and what was not written is zeroed.
use mathlib.Core.Path.{◌∙◌}
use Rattle.answers.proofs.Outcomes.{finished}
use Rattle.block_writer.proofs.write_blocks.Goals as goal

pub returns : goal.returns
returns c =
    let write = c.write_all-written in
    finished write.result write.new.out c.zero_rest.ensures ∙ write.ensures
