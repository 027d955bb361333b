-- Word by word. Kept: the words put so far stand as bytes in front, and the block keeps its length.
use Rattle.block_writer.proofs.Writing.{WordsPut}
use Rattle.block_writer.proofs.put_words.Given as goal

abbrev pub invariant-loop-i : goal.invariant-loop-i
invariant-loop-i l = WordsPut l.s l.block l.initial.block l.i
