-- The rows stand inside the headers.
use Rattle.group.proofs.Groups.column_total.Goals as goal

pub column_total-requires : goal.column_total-requires
column_total-requires c = (c.requires.0, c.args.self.now.rows.room, c.requires.1)
