-- The call hands back the answer.
use Rattle.symbolic_variable.proofs.Laws.{entry_turned}
use Rattle.symbolic_variable.proofs.Entry.rotate.Goals as goal

pub returns : goal.returns
returns c = entry_turned c.args.self c.args.offset c.rotated.result c.rotated.ensures
