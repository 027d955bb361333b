-- The four words are read one by one.
use Rattle.header_offsets.proofs.HeaderWords.{header_read}
use Rattle.header_offsets.proofs.words.header_at.Goals as goal

pub returns : goal.returns
returns c = header_read c.args.words.now c.args.at
