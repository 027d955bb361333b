-- The rows are those that were asked for.
use mathlib.Core.Path.{refl}
use Rattle.group.proofs.Groups.from_rows.Goals as goal

pub invariant_of-result : goal.invariant_of-result
invariant_of-result c = record { rows = c.requires }

pub returns-clause-rows : goal.returns-clause-rows
returns-clause-rows c = record { count = refl; headers_are = refl; pool_is = refl }
