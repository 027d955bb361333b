-- Block by block. Kept: the blocks written so far, and those that are left, are all of them; the output keeps its length.
use Rattle.block_writer.proofs.Writing.{BlocksPut}
use Rattle.block_writer.proofs.write_each.Given as goal

abbrev pub invariant-loop-k : goal.invariant-loop-k
invariant-loop-k l = BlocksPut l.s l.out l.initial.out l.blocks l.k
