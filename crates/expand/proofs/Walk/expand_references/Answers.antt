use Rattle.expand.proofs.Expanding.{naming_none, ready_name, naming_more, naming_refused}
use Rattle.expand.proofs.Walk.expand_references.Goals as goal

pub loop-r-init : goal.loop-r-init
loop-r-init c = naming_none c.requires.0 c.requires.1

pub expand_node-answer-requires : goal.expand_node-answer-requires
expand_node-answer-requires c = let p = c.requires in ready_name p.0 p.1 c.loop-r.invariant c.loop-r-test.true

pub returns-in_default : goal.returns-in_default
returns-in_default c =
    let v = c.expand_node-answer in
    let p = c.requires in
    naming_refused p.0 p.1 c.loop-r.invariant c.loop-r-test.true v.new.self v.result v.ensures c.in_default.is

pub loop-r-preserved : goal.loop-r-preserved
loop-r-preserved c =
    let v = c.expand_node-answer in
    let p = c.requires in
    naming_more p.0 p.1 c.loop-r.invariant c.loop-r-test.true v.new.self v.result v.ensures c.in-Ok.is
