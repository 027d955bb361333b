use Rattle.expand.proofs.Roots.{passing_none, passing_walking, passing_done, next_names, passing_more, passing_refused}
use Rattle.expand.proofs.Walk.expand_each.Goals as goal

pub loop-x-init : goal.loop-x-init
loop-x-init c = passing_none c.requires c.into_iter-x-iterator.ensures.into_iter_gives

pub expand_references-answer-requires : goal.expand_references-answer-requires
expand_references-answer-requires c =
    let h = c.loop-x.invariant in
    (passing_walking c.requires h, next_names c.requires h c.in-Some.ensures.steps c.part.ensures)

pub returns-in_default : goal.returns-in_default
returns-in_default c =
    let v = c.expand_references-answer in
    passing_refused c.requires c.loop-x.invariant c.in-Some.ensures.steps c.part.ensures v.new.self v.result v.ensures c.in_default.is

pub loop-x-preserved : goal.loop-x-preserved
loop-x-preserved c =
    let v = c.expand_references-answer in
    passing_more c.requires c.loop-x.invariant c.in-Some.ensures.steps c.part.ensures v.new.self v.result v.ensures c.in-Ok.is

pub returns : goal.returns
returns c = passing_done c.requires c.loop-x.invariant c.in-None.ensures.steps.0
