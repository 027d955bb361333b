-- The record's list stands in the pool (`stands`).
use Rattle.group.proofs.PoolLists.{stands}
use Rattle.group.proofs.kept.Kept.of.Goals as goal

pub new-requires : goal.new-requires
new-requires c = stands c.args.pool.now c.args.node c.requires
