-- Each byte is the word divided by a power of 256, modulo 256, as `word_bytes` has it.
use Rattle.std.proofs.Common.{◌∙◌}
use Rattle.block.proofs.Laws.{bytes_of}
use Rattle.block.proofs.words.word_bytes.Goals as goal

pub returns : goal.returns
returns c = c.to_le_bytes.ensures ∙ bytes_of c.args.w
