-- The monomial is looked for among the rows. Found, its row counts one more (`batch_count`); not found, it waits behind the others if it may follow
-- the last of them (`batch_wait`), and else those that wait come first.
use mathlib.Core.Path.{refl, subst}
use Prim.Native.Nat.{◌+◌, ◌*◌}
use borrow.Author.Rules.{rules}
use lib.ListN.{length-set}
use Rattle.group.specs.declared.Groups.{Groups}
use Rattle.group.specs.declared.waits.Waits.{Waits}
use Rattle.group.specs.Waiting.{pool_vars, MayFollow, Batch}
use Rattle.group.specs.Groups.{Awaits}
use Rattle.group.proofs.Counting.{there_small, count_more}
use Rattle.group.proofs.Awaiting.{batch_count, batch_wait}
use Rattle.group.proofs.Tallying.{same_as, counting_more}
use Rattle.group.proofs.Groups.tally_near.Goals as goal

-- The rows and those that wait.
batch : (g : Groups) (w : Waits) → Awaits g w → Batch g.n w.count g.headers.now g.pool.now w.places
batch g w h = record { rows_are = g.rows; waiting = h }

pub overflow_add-self-in-Ok : goal.overflow_add-self-in-Ok
overflow_add-self-in-Ok c =
    let g = c.args.self.now in
    let x = there_small g.n c.in-Ok.k g.headers.now g.pool.now (pool_vars g.pool.now c.args.at) g.rows c.in-Ok.ensures in
    let y = counting_more g c.args.waits.now in
    search rules

pub invariant_of-self : goal.invariant_of-self
invariant_of-self c =
    let g = c.args.self.now in
    record { rows = (count_more g.n c.in-Ok.k g.headers.now g.pool.now (pool_vars g.pool.now c.args.at) g.rows c.in-Ok.ensures).0 }

pub returns-then-may_follow : goal.returns-then-may_follow
returns-then-may_follow c =
    let g = c.args.self.now in
    let w = c.args.waits.now in
    let v = pool_vars g.pool.now c.args.at in
    let follows = subst (MayFollow w.count w.places g.pool.now c.args.at) c.if-may_follow.true c.may_follow.ensures in
    let x = batch_wait g.n w.count g.headers.now g.pool.now w.places v (batch g w c.requires.0) c.args.at c.in-Err.k refl c.requires.1 c.in-Err.ensures follows in
    rw c.push.ensures (same_as g, x.0.waiting, x.1)

pub returns-in-Ok : goal.returns-in-Ok
returns-in-Ok c =
    let g = c.args.self.now in
    let w = c.args.waits.now in
    let x = batch_count g.n w.count g.headers.now g.pool.now w.places (pool_vars g.pool.now c.args.at) (batch g w c.requires.0) c.in-Ok.k c.in-Ok.ensures in
    (record { slice = refl; long = length-set g.headers.now (4 * c.in-Ok.k + 3) _; pool = refl }, x.0.waiting, x.1)
