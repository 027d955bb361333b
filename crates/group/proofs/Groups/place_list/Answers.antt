use Rattle.group.proofs.Placements.{listing_start, listing_asks, listing_step, listing_done}
use Rattle.group.proofs.Groups.place_list.Goals as goal

pub loop-at-init : goal.loop-at-init
loop-at-init c =
    let a = c.args in
    listing_start a.label a.list a.self.now a.terms.now _ c.requires.1 c.into_iter-at-iterator.ensures.into_iter_gives

pub place-near-requires : goal.place-near-requires
place-near-requires c = listing_asks c.loop-at.invariant c.in-Some.ensures.steps c.requires.0

pub loop-at-preserved : goal.loop-at-preserved
loop-at-preserved c =
    let p = c.place-near in
    listing_step c.loop-at.invariant c.in-Some.ensures.steps p.auto.terms p.ensures.placed

pub returns : goal.returns
returns c = listing_done c.loop-at.invariant c.in-None.ensures.steps.0
