-- The monomial is counted or waits; else those that wait are put in first, and then it is counted or waits alone (`again`).
use Rattle.group.proofs.Tallying.{again_asks, again}
use Rattle.group.proofs.Groups.tally.Goals as goal

pub tally_near-requires-2 : goal.tally_near-requires-2
tally_near-requires-2 c =
    let d = c.in_default.ensures in
    again_asks d.1 d.2 c.requires.0 c.in_ok-insert.ensures c.clear.ensures c.args.at c.requires.1 c.requires.2

pub returns : goal.returns
returns c =
    let d = c.in_default.ensures in
    again d.1 d.2 c.requires.0 c.in_ok-insert.ensures c.clear.ensures c.args.at _ _ _ c.tally_near-2.ensures
