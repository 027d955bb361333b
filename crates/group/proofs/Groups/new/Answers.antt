-- The headers are cleared, so that there are no rows (`rows_none`).
use lib.ListN.{length}
use mathlib.Core.Path.{refl}
use Rattle.group.proofs.Starts.{zeros_again, rows_none}
use Rattle.group.proofs.Groups.new.Goals as goal

pub invariant_of-result : goal.invariant_of-result
invariant_of-result c =
    let H = c.fill.new.self in
    record { rows = (rows_none H c.args.pool.now (zeros_again H (length c.args.headers.now) (c.fill.ensures.after (λ y h. h)))).0 }

pub returns-clause-none : goal.returns-clause-none
returns-clause-none c =
    let H = c.fill.new.self in
    record { none = (rows_none H c.args.pool.now (zeros_again H (length c.args.headers.now) (c.fill.ensures.after (λ y h. h)))).1; long = c.fill.auto.self; pool_is = refl }
