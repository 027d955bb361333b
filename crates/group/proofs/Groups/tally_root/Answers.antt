use mathlib.Core.Path.{sym, subst, ◌∙◌}
use Rattle.group.specs.Grouped.{tally_all, non_zero, list_of}
use Rattle.group.specs.Groups.{tallies, Counted}
use Rattle.group.proofs.Tallying.{tallying_empty, tallying_start, tallying_asks, tallying_step, tallying_full, tallying_done}
use Rattle.group.proofs.Groups.tally_root.Goals as goal

pub returns-then-self-node-eq0 : goal.returns-then-self-node-eq0
returns-then-self-node-eq0 c = tallying_empty c.args.self.now c.args.node c.if-self-node-eq0.true

pub loop-at-init : goal.loop-at-init
loop-at-init c =
    let a = c.args in
    let w = c.new-waits in
    tallying_start a.self.now a.node w.result _ c.requires.0 c.requires.1 w.ensures.0 w.ensures.1
    (c.into_iter-at-iterator.ensures.into_iter_gives ∙ c.of-at-items.ensures)

pub tally-requires : goal.tally-requires
tally-requires c = tallying_asks c.loop-at.invariant c.in-Some.ensures.steps

pub returns-in_err-near : goal.returns-in_err-near
returns-in_err-near c =
    let g = c.args.self.now in
    subst (Counted g c.tally.new.self (tally_all (non_zero (list_of g.pool.now c.args.node)) (tallies g))) (sym c.from_residual.ensures)
    (tallying_full c.loop-at.invariant c.in_err-near.ensures)

pub loop-at-preserved : goal.loop-at-preserved
loop-at-preserved c = tallying_step c.loop-at.invariant c.in-Some.ensures.steps c.in_ok-near.ensures

pub returns : goal.returns
returns c = tallying_done c.loop-at.invariant c.in-None.ensures.steps.0 _ _ c.insert.ensures
