use mathlib.Core.Path.{sym, ap, ◌∙◌}
use native.Mathlib.Omega.{arith}
use lib.ListN.{length}
use Rattle.group.proofs.KeptPlaces.{kept_none, first_stands, first_left_out, first_kept}
use Rattle.group.proofs.kept.KeptIterator.next.Goals as goal

pub returns-then-self-at-ne0-clause-steps : goal.returns-then-self-at-ne0-clause-steps
returns-then-self-at-ne0-clause-steps c =
    let s = c.loop-self.self-inside in
    sym c.self.view_is ∙ c.loop-self.invariant.0 ∙ first_kept s.pool.now s.at s.count c.loop-self-test.true c.if-self-at-ne0.true

pub returns-then-self-at-ne0-clause-goes : goal.returns-then-self-at-ne0-clause-goes
returns-then-self-at-ne0-clause-goes c =
    let s = c.loop-self.self-inside in
    let e = sym c.self.view_is ∙ c.loop-self.invariant.0 ∙ first_kept s.pool.now s.at s.count c.loop-self-test.true c.if-self-at-ne0.true in
    record { on = λ _. (tt, tt, omega (arith, ap length e)); keeps = tt; rests = λ _. tt }

pub loop-self-preserved : goal.loop-self-preserved
loop-self-preserved c =
    let s = c.loop-self.self-inside in
    let h = c.loop-self-test.true in (
      c.loop-self.invariant.0 ∙ first_left_out s.pool.now s.at s.count h c.if-self-at-ne0.false,
      (first_stands s.pool.now s.at s.count h c.loop-self.invariant.1).1,
    )

pub returns-clause-steps : goal.returns-clause-steps
returns-clause-steps c =
    let s = c.loop-self.self-inside in
    let e = kept_none s.pool.now s.at s.count c.loop-self-test.false in
    (sym c.self.view_is ∙ c.loop-self.invariant.0 ∙ e, e)
