-- There is no room for a row for each that waits (`insert_full`), or they are put in.
use Rattle.group.proofs.Inserts.{insert_full}
use Rattle.group.proofs.Groups.insert.Goals as goal

pub returns-then-self-waits : goal.returns-then-self-waits
returns-then-self-waits c = insert_full (record { rows_are = c.args.self.now.rows; waiting = c.requires }) c.if-self-waits.true
