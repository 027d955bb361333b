-- Block by block, until one lacks its check word. Kept: what follows the words read so far gives the outcome of all.
use Rattle.block_reader.proofs.Reading.{BlocksRead}
use Rattle.block_reader.proofs.read_each.Given as goal

abbrev pub invariant-loop-k : goal.invariant-loop-k
invariant-loop-k l = BlocksRead l.bytes l.out l.initial.out l.blocks l.k
