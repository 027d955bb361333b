-- The rows from k on are moved up, and the monomial's words are written: `held_row`.
use mathlib.Core.Path.{sym, ap, subst, ◌∙◌}
use mathlib.Core.List.{List, ◌∷◌, ◌++◌}
use Prim.Native.Nat.{◌+◌, ◌≤◌}
use native.Mathlib.Omega.{arith}
use lib.ListN.{length, take, drop}
use Rattle.semantics.specs.Monomial.{Monomial}
use Rattle.semantics.specs.Lists.{All}
use Rattle.monomial.specs.Words.{monomial_of, held, Fits}
use Rattle.monomial.proofs.Rows.{held_length}
use Rattle.monomial.proofs.Inserting.{held_row, put_fits}
use Rattle.monomial.proofs.work_list.WorkList.put_at.Goals as goal

pub invariant_of-self : goal.invariant_of-self
invariant_of-self c =
    let s = c.self.inside in
    let n = held_length s.count s.work.now in
    let l = ap length c.self.view_is in
    let below : s.count + 1 ≤ 256 = omega (arith, c.requires.1, l, n) in
    let h =
    held_row s.work.now c.args.k c.args.m.now s.count (omega (arith, c.self.invariant.1)) (omega (arith, c.requires.0, l, n))
    c.shift_up.new.s c.put_row.new.work c.shift_up.auto.s c.put_row.auto.work c.shift_up.ensures c.put_row.ensures in (
      below,
      omega (arith, c.self.invariant.1, c.shift_up.auto.s, c.put_row.auto.work),
      subst (All Fits) (sym h) (put_fits (held s.count s.work.now) c.args.k c.self.invariant.2 (monomial_of c.args.m.now) c.requires.2),
    )

pub returns : goal.returns
returns c =
    let s = c.self.inside in
    let n = held_length s.count s.work.now in
    let l = ap length c.self.view_is in
    let below : s.count + 1 ≤ 256 = omega (arith, c.requires.1, l, n) in
    held_row s.work.now c.args.k c.args.m.now s.count (omega (arith, c.self.invariant.1)) (omega (arith, c.requires.0, l, n))
    c.shift_up.new.s c.put_row.new.work c.shift_up.auto.s c.put_row.auto.work c.shift_up.ensures c.put_row.ensures
    ∙ ap (λ (z : List Monomial). take c.args.k z ++ (monomial_of c.args.m.now ∷ drop c.args.k z)) c.self.view_is
