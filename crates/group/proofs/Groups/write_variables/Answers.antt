-- The headers hold rows, as the type says.
use Rattle.group.proofs.Groups.write_variables.Goals as goal

pub write_variables-requires : goal.write_variables-requires
write_variables-requires c = (c.args.self.now.rows, c.requires)
