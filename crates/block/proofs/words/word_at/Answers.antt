-- The four bytes are a word's, least first.
use Rattle.std.proofs.Common.{◌∙◌}
use Rattle.block.proofs.Laws.{word_of}
use Rattle.block.proofs.words.word_at.Goals as goal

pub returns : goal.returns
returns c = c.from_le_bytes.ensures ∙ word_of c.args.bytes.now c.args.at
