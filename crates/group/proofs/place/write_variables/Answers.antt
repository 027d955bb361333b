use mathlib.Core.Path.{sym, ap, ◌∙◌}
use mathlib.Core.List.{List, ◌++◌}
use Prim.Native.Nat.{ℕ, ◌+◌}
use native.Mathlib.Omega.{arith}
use lib.ListN.{take, drop}
use Rattle.group.specs.Grouped.{tallied, row_size, row_vars}
use Rattle.group.proofs.Headers.{tallied_length, vars_at_lem, inside_at}
use Rattle.group.proofs.RowVariables.{written_none, written_fits, written_more, written_all, vars_long}
use Rattle.group.proofs.place.write_variables.Goals as goal

pub loop-i-init : goal.loop-i-init
loop-i-init c = written_none (tallied c.args.n c.args.headers.now c.args.pool.now) c.args.variables.now

pub write_row-at-requires : goal.write_row-at-requires
write_row-at-requires c =
    let a = c.args in
    let b = c.loop-i in
    let gs = tallied a.n a.headers.now a.pool.now in
    let e = tallied_length a.n a.headers.now a.pool.now in
    let r = c.requires.0.room in
    let l = vars_long a.n b.i a.headers.now a.pool.now c.requires.0 c.loop-i-test.true in
    let f = written_fits gs a.variables.now b.variables b.at b.i b.invariant (omega arith) (omega arith) in
    (omega arith, (inside_at a.n b.i a.headers.now a.pool.now c.requires.0 c.loop-i-test.true).0, omega arith)

pub loop-i-preserved : goal.loop-i-preserved
loop-i-preserved c =
    let a = c.args in
    let b = c.loop-i in
    let u = c.write_row-at in
    let gs = tallied a.n a.headers.now a.pool.now in
    let size = row_size a.headers.now b.i in
    let e = tallied_length a.n a.headers.now a.pool.now in
    let l = vars_long a.n b.i a.headers.now a.pool.now c.requires.0 c.loop-i-test.true in
    let row_written =
    u.ensures.written ∙ ap (λ (k : ℕ). take b.at b.variables ++ (row_vars a.headers.now a.pool.now b.i ++ drop k b.variables)) u.ensures.next
    ∙ ap (λ (x : List ℕ). take b.at b.variables ++ (x ++ drop (b.at + size) b.variables)) (sym (vars_at_lem a.n b.i a.headers.now a.pool.now c.loop-i-test.true)) in
    written_more gs a.variables.now b.variables b.at b.i b.invariant (omega arith) u.new.variables u.result size l u.ensures.next row_written

pub returns : goal.returns
returns c =
    let a = c.args in
    let b = c.loop-i in
    let e = tallied_length a.n a.headers.now a.pool.now in
    written_all (tallied a.n a.headers.now a.pool.now) a.variables.now b.variables b.at b.i b.invariant (omega arith)
