-- The rule of the record's kind, over its children's nodes. What is known of the words and of any order of which the state holds is one
-- record, `Picking`.
use mathlib.Core.Path.{ap, ◌∙◌, sym}
use mathlib.Core.List.{[]}
use mathlib.Core.Logic.{⊎_elim}
use Rattle.semantics.specs.Walk.{children}
use Rattle.semantics.proofs.Members.{mem_here}
use Rattle.records.proofs.Visits.{record_inside}
use Rattle.records.specs.Nodes.{shown_node}
use Rattle.graph_walk.proofs.Picking.{picking, asked, left_in, right_in, child_there, picks_leaf, picks_const, picks_neg, picks_add, picks_sub, picks_mul}
use Rattle.graph_walk.proofs.Walk.pick_node.Goals as goal

pub record_at-q-requires : goal.record_at-q-requires
record_at-q-requires c =
    let w = c.args.self.now in
    record_inside w.sheet.words.now w.sheet.checked c.args.r c.requires.inside

pub returns-in-Leaf : goal.returns-in-Leaf
returns-in-Leaf c =
    λ done o there h.
    ⊎_elim
    (λ e. picks_leaf (picking c.record_at-q.ensures (sym (ap shown_node e.1) ∙ c.node.ensures.0) c.requires o there h))
    (λ e. picks_const (picking c.record_at-q.ensures (sym (ap shown_node e.1) ∙ c.node.ensures.0) c.requires o there h))
    c.in-Leaf.is

pub built_child-requires : goal.built_child-requires
unfolding children
built_child-requires c =
    child_there (asked c.record_at-q.ensures c.in-Add.ensures.0 c.requires) _ (left_in c.in-Add.x c.in-Add.y)

pub built_child-requires-in-Add : goal.built_child-requires-in-Add
unfolding children
built_child-requires-in-Add c =
    child_there (asked c.record_at-q.ensures c.in-Add.ensures.0 c.requires) _ (right_in c.in-Add.x c.in-Add.y)

pub returns-in-Add : goal.returns-in-Add
returns-in-Add c =
    λ done o there h.
    c.add_rule.ensures
    ∙ picks_add (picking c.record_at-q.ensures c.in-Add.ensures.0 c.requires o there h) _ _ c.built_child.ensures c.built_child-in-Add.ensures

pub built_child-requires-in-Sub : goal.built_child-requires-in-Sub
unfolding children
built_child-requires-in-Sub c =
    child_there (asked c.record_at-q.ensures c.in-Sub.ensures.0 c.requires) _ (left_in c.in-Sub.x c.in-Sub.y)

pub built_child-requires-in-Sub-2 : goal.built_child-requires-in-Sub-2
unfolding children
built_child-requires-in-Sub-2 c =
    child_there (asked c.record_at-q.ensures c.in-Sub.ensures.0 c.requires) _ (right_in c.in-Sub.x c.in-Sub.y)

pub returns-in-Sub : goal.returns-in-Sub
returns-in-Sub c =
    λ done o there h.
    c.sub_rule.ensures
    ∙ picks_sub (picking c.record_at-q.ensures c.in-Sub.ensures.0 c.requires o there h) _ _ c.built_child-in-Sub.ensures c.built_child-in-Sub-2.ensures

pub built_child-requires-in-Mul : goal.built_child-requires-in-Mul
unfolding children
built_child-requires-in-Mul c =
    child_there (asked c.record_at-q.ensures c.in-Mul.ensures.0 c.requires) _ (left_in c.in-Mul.x c.in-Mul.y)

pub built_child-requires-in-Mul-2 : goal.built_child-requires-in-Mul-2
unfolding children
built_child-requires-in-Mul-2 c =
    child_there (asked c.record_at-q.ensures c.in-Mul.ensures.0 c.requires) _ (right_in c.in-Mul.x c.in-Mul.y)

pub returns-in-Mul : goal.returns-in-Mul
returns-in-Mul c =
    λ done o there h.
    c.mul_rule.ensures
    ∙ picks_mul (picking c.record_at-q.ensures c.in-Mul.ensures.0 c.requires o there h) _ _ c.built_child-in-Mul.ensures c.built_child-in-Mul-2.ensures

pub built_child-requires-in-Neg : goal.built_child-requires-in-Neg
unfolding children
built_child-requires-in-Neg c =
    child_there (asked c.record_at-q.ensures c.in-Neg.ensures.0 c.requires) _ (mem_here c.in-Neg.x [])

pub returns-in-Neg : goal.returns-in-Neg
returns-in-Neg c =
    λ done o there h.
    c.neg_rule.ensures
    ∙ picks_neg (picking c.record_at-q.ensures c.in-Neg.ensures.0 c.requires o there h) _ c.built_child-in-Neg.ensures
