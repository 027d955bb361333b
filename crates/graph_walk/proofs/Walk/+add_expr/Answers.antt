use native.Mathlib.Omega.{arith}
use Rattle.records.proofs.Steps.{few_records}
use Rattle.records.proofs.Visits.{record_inside}
use Rattle.nodes.proofs.States as states
use Rattle.graph_walk.proofs.Rooting.{still_inside}
use Rattle.graph_walk.proofs.Visits.{visited_seen, children_none, children_same, child_below, child_ready, children_more, adding, visited}
use Rattle.graph_walk.proofs.Walk.+add_expr.Goals as goal
use Rattle.graph_walk.proofs.Walk.+add_expr.Goals.{in-Some, in_default}

pub offset_bounds-self-r : goal.offset_bounds-self-r
offset_bounds-self-r t c =
    let w = c.args.self.now in
    omega (arith, c.requires.1, few_records w.sheet.words.now w.sheet.checked)

pub bounds-self-r : goal.bounds-self-r
bounds-self-r t c =
    let w = c.args.self.now in
    let p = c.requires in
    omega (arith, p.1, states.scratch_length w.sheet.words.now p.0.done w.scratch.now w.out.now w.n p.0.holds)

pub returns-then-self-r-ne0 : goal.returns-then-self-r-ne0
returns-then-self-r-ne0 t c = visited_seen c.requires c.if-self-r-ne0.true

-- The children, one after the other.
pub loop-i-init : goal.loop-i-init
loop-i-init t c = children_none c.requires

pub child_at-requires : goal.child_at-requires
child_at-requires t c =
    let w = c.loop-i.self in
    record_inside w.sheet.words.now w.sheet.checked c.args.r (still_inside c.loop-i.invariant.walks.0 c.requires.1)

pub add_expr-requires : goal.add_expr-requires
add_expr-requires t c =
    let h = c.loop-i.invariant in
    let e = c.in-Some.ensures in
    (omega (arith, c.decreases, child_below c.requires h e), child_ready c.requires h e)

pub loop-i-preserved : goal.loop-i-preserved
loop-i-preserved t c =
    elim c.match-child_at.branch [
      | in-Some w ↦ rw w.self-is (children_more c.requires c.loop-i.invariant w.in-Some.ensures w.add_expr.ensures)
      | in_default w ↦ rw w.self-is (children_same c.requires c.loop-i.invariant w.in_default.ensures)
    ]

-- All of them are visited.
pub add_record-requires : goal.add_record-requires
add_record-requires t c = adding c.requires c.loop-i.invariant c.if-self-r-ne0.false c.loop-i-test.false

pub returns : goal.returns
returns t c = visited c.requires c.loop-i.invariant c.if-self-r-ne0.false c.loop-i-test.false c.add_record.ensures
