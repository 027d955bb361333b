-- Word by word. Kept: the words read so far stand in front, and the output keeps its length.
use Rattle.block_reader.proofs.Reading.{WordsRead}
use Rattle.block_reader.proofs.read_block.Given as goal

abbrev pub invariant-loop-i : goal.invariant-loop-i
invariant-loop-i l = WordsRead l.block l.out l.i
