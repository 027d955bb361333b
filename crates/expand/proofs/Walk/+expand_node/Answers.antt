use Rattle.std.proofs.Common.{◌≡◌, ◌*◌, ◌<◌, get_or, subst, ℕ}
use Rattle.expand.specs.declared.Walk.{Walk}
use Rattle.expand.specs.Walks.{ExpandReady}
use Rattle.expand.proofs.Expanding.{visits_seen, Fresh, finishing, visits, children_none, children_all, children_same, child_below, child_ready, children_more, child_refused}
use Rattle.expand.proofs.Walk.+expand_node.Goals as goal

-- A record that is not expanded yet.
fresh : {v : Walk} {r : ℕ} → ExpandReady v r → get_or v.pool.now (2 * r) 0 ≡ 0 → Fresh v r
fresh p e = record { ready = p; free = e }

pub returns-then-self-r-ne0 : goal.returns-then-self-r-ne0
returns-then-self-r-ne0 t c = visits_seen c.requires c.if-self-r-ne0.true

pub loop-i-init : goal.loop-i-init
loop-i-init t c = children_none (fresh c.requires c.if-self-r-ne0.false)

pub expand_node-answer-requires : goal.expand_node-answer-requires
expand_node-answer-requires t c =
    let f = fresh c.requires c.if-self-r-ne0.false in
    let h = c.loop-i.invariant in
    let e = c.in-Some.ensures in
    (subst (λ (m : ℕ). c.in-Some.child < m) c.decreases (child_below f h e), child_ready f h e)

pub returns-in_default-answer : goal.returns-in_default-answer
returns-in_default-answer t c =
    let v = c.expand_node-answer in
    child_refused (fresh c.requires c.if-self-r-ne0.false) c.loop-i.invariant c.in-Some.ensures v.new.self v.result v.ensures c.in_default-answer.is

pub loop-i-preserved : goal.loop-i-preserved
loop-i-preserved t c =
    let v = c.expand_node-answer in
    children_more (fresh c.requires c.if-self-r-ne0.false) c.loop-i.invariant c.in-Some.ensures v.new.self v.result v.ensures c.in-Ok.is

pub loop-i-preserved-in_default : goal.loop-i-preserved-in_default
loop-i-preserved-in_default t c = children_same (fresh c.requires c.if-self-r-ne0.false) c.loop-i.invariant c.in_default.ensures

pub finish_record-answer-requires : goal.finish_record-answer-requires
finish_record-answer-requires t c =
    let f = fresh c.requires c.if-self-r-ne0.false in
    finishing f (children_all f c.loop-i.invariant c.loop-i-test.false)

pub returns : goal.returns
returns t c =
    let f = fresh c.requires c.if-self-r-ne0.false in
    let u = c.finish_record-answer in
    visits f (children_all f c.loop-i.invariant c.loop-i-test.false) u.new.self u.result u.ensures
