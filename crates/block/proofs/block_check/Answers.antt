-- A slice that is not of 512 bytes is refused (`length_wrong`); of any other the answer is what `block_good` says of the block at its start (`length_right`).
use Rattle.block.proofs.Laws.{length_right, length_wrong}
use Rattle.block.proofs.block_check.Goals as goal

pub returns-then-bytes-ne512 : goal.returns-then-bytes-ne512
returns-then-bytes-ne512 c = length_wrong c.args.number c.args.bytes.now c.if-bytes-ne512.true

pub returns : goal.returns
returns c = length_right c.args.number c.args.bytes.now c.if-bytes-ne512.false c.block_good.ensures
