-- The monomial is written to row k, behind the first k: `held_behind`.
use Rattle.monomial.proofs.Inserting.{held_behind}
use Rattle.monomial.proofs.lists.put_monomial.Goals as goal

pub returns : goal.returns
returns c = held_behind c.args.work.now c.args.k c.args.m.now c.requires c.put_row.new.work c.put_row.auto.work c.put_row.ensures
