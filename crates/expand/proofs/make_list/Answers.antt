-- The list of a record by its node, from the lists of the node's children in the pool.
use mathlib.Core.Path.{refl, ap, subst, ◌∙◌}
use native.Mathlib.Omega.{arith}
use lib.ListN.{length}
use Rattle.semantics.specs.Walk.{children}
use Rattle.records.specs.declared.Node as nodes
use Rattle.records.specs.Access.{five_words}
use Rattle.records.specs.Nodes.{CarriesLeaf}
use Rattle.expand.proofs.Finishes.{shown, leaf_ready, finishes_leaf, constant_ready, finishes_constant, neg_child, finishes_neg}
use Rattle.expand.proofs.Finishes.{first_of, second_of, finishes_add, finishes_sub, finishes_mul}
use Rattle.expand.proofs.make_list.Goals as goal

pub expand_leaf-requires : goal.expand_leaf-requires
expand_leaf-requires c =
    let s = c.args.sheet.checked in
    let p = c.requires.1 in
    let n = shown s p c.record_at.result c.record_at.ensures c.node.ensures.0 c.in-Leaf.is in
    let same = subst (λ (x : nodes.Node). CarriesLeaf x c.record_at.result) c.in-Leaf.is c.node.ensures.1 in
    let k = leaf_ready s p _ n c.in-Leaf.q (ap five_words same ∙ c.record_at.ensures) in
    (c.requires.0, k.0, (c.args.r, k.1))

pub returns-in-Leaf : goal.returns-in-Leaf
returns-in-Leaf c =
    let s = c.args.sheet.checked in
    let p = c.requires.1 in
    let n = shown s p c.record_at.result c.record_at.ensures c.node.ensures.0 c.in-Leaf.is in
    let same = subst (λ (x : nodes.Node). CarriesLeaf x c.record_at.result) c.in-Leaf.is c.node.ensures.1 in
    finishes_leaf s p _ n c.in-Leaf.q (ap five_words same ∙ c.record_at.ensures) c.expand_leaf.result c.expand_leaf.ensures

pub expand_constant-requires : goal.expand_constant-requires
expand_constant-requires c =
    let s = c.args.sheet.checked in
    let p = c.requires.1 in
    (c.requires.0, constant_ready s p _ (shown s p c.record_at.result c.record_at.ensures c.node.ensures.0 c.in-Constant.is))

pub returns-in-Constant : goal.returns-in-Constant
returns-in-Constant c =
    let s = c.args.sheet.checked in
    let p = c.requires.1 in
    finishes_constant s p _ (shown s p c.record_at.result c.record_at.ensures c.node.ensures.0 c.in-Constant.is) c.expand_constant.result c.expand_constant.ensures

pub of_record-requires : goal.of_record-requires
unfolding children
of_record-requires c =
    let s = c.args.sheet.checked in
    let p = c.requires.1 in
    (_, first_of s p _ (shown s p c.record_at.result c.record_at.ensures c.node.ensures.0 c.in-Add.is) refl)

pub of_record-requires-in-Add : goal.of_record-requires-in-Add
unfolding children
of_record-requires-in-Add c =
    let s = c.args.sheet.checked in
    let p = c.requires.1 in
    (_, second_of s p _ (shown s p c.record_at.result c.record_at.ensures c.node.ensures.0 c.in-Add.is) refl)

pub returns-in-Add : goal.returns-in-Add
unfolding children
returns-in-Add c =
    let s = c.args.sheet.checked in
    let p = c.requires.1 in
    let n = (shown s p c.record_at.result c.record_at.ensures c.node.ensures.0 c.in-Add.is) in
    finishes_add s p _ _ _ _ (c.of_record.ensures _ (first_of s p _ n refl)) (c.of_record-in-Add.ensures _ (second_of s p _ n refl)) c.expand_sum.result n c.expand_sum.ensures

pub of_record-requires-in-Sub : goal.of_record-requires-in-Sub
unfolding children
of_record-requires-in-Sub c =
    let s = c.args.sheet.checked in
    let p = c.requires.1 in
    (_, first_of s p _ (shown s p c.record_at.result c.record_at.ensures c.node.ensures.0 c.in-Sub.is) refl)

pub of_record-requires-in-Sub-2 : goal.of_record-requires-in-Sub-2
unfolding children
of_record-requires-in-Sub-2 c =
    let s = c.args.sheet.checked in
    let p = c.requires.1 in
    (_, second_of s p _ (shown s p c.record_at.result c.record_at.ensures c.node.ensures.0 c.in-Sub.is) refl)

pub returns-in-Sub : goal.returns-in-Sub
unfolding children
returns-in-Sub c =
    let s = c.args.sheet.checked in
    let p = c.requires.1 in
    let n = (shown s p c.record_at.result c.record_at.ensures c.node.ensures.0 c.in-Sub.is) in
    finishes_sub s p _ _ _ _ (c.of_record-in-Sub.ensures _ (first_of s p _ n refl)) (c.of_record-in-Sub-2.ensures _ (second_of s p _ n refl)) c.expand_sum-in-Sub.result n c.expand_sum-in-Sub.ensures

pub of_record-requires-in-Mul : goal.of_record-requires-in-Mul
unfolding children
of_record-requires-in-Mul c =
    let s = c.args.sheet.checked in
    let p = c.requires.1 in
    (_, first_of s p _ (shown s p c.record_at.result c.record_at.ensures c.node.ensures.0 c.in-Mul.is) refl)

pub of_record-requires-in-Mul-2 : goal.of_record-requires-in-Mul-2
unfolding children
of_record-requires-in-Mul-2 c =
    let s = c.args.sheet.checked in
    let p = c.requires.1 in
    (_, second_of s p _ (shown s p c.record_at.result c.record_at.ensures c.node.ensures.0 c.in-Mul.is) refl)

pub returns-in-Mul : goal.returns-in-Mul
unfolding children
returns-in-Mul c =
    let s = c.args.sheet.checked in
    let p = c.requires.1 in
    let n = (shown s p c.record_at.result c.record_at.ensures c.node.ensures.0 c.in-Mul.is) in
    finishes_mul s p _ _ _ _ (c.of_record-in-Mul.ensures _ (first_of s p _ n refl)) (c.of_record-in-Mul-2.ensures _ (second_of s p _ n refl)) c.expand_product.result n c.expand_product.ensures

pub expand_product-requires : goal.expand_product-requires
unfolding children
expand_product-requires c =
    let s = c.args.sheet.checked in
    let p = c.requires.1 in
    let n = shown s p c.record_at.result c.record_at.ensures c.node.ensures.0 c.in-Mul.is in
    let l = first_of s p _ n refl in
    let r = second_of s p _ n refl in
    (c.requires.0, omega (arith, ap length (c.of_record-in-Mul.ensures _ l), l.few), omega (arith, ap length (c.of_record-in-Mul-2.ensures _ r), r.few))

pub of_record-requires-in-Neg : goal.of_record-requires-in-Neg
of_record-requires-in-Neg c =
    let s = c.args.sheet.checked in
    let p = c.requires.1 in
    (_, neg_child s p _ (shown s p c.record_at.result c.record_at.ensures c.node.ensures.0 c.in-Neg.is))

pub expand_neg-requires : goal.expand_neg-requires
expand_neg-requires c =
    let s = c.args.sheet.checked in
    let p = c.requires.1 in
    let k = neg_child s p _ (shown s p c.record_at.result c.record_at.ensures c.node.ensures.0 c.in-Neg.is) in
    (c.requires.0, omega (arith, ap length (c.of_record-in-Neg.ensures _ k), k.few))

pub returns-in-Neg : goal.returns-in-Neg
returns-in-Neg c =
    let s = c.args.sheet.checked in
    let p = c.requires.1 in
    let n = (shown s p c.record_at.result c.record_at.ensures c.node.ensures.0 c.in-Neg.is) in
    finishes_neg s p _ n c.expand_neg.result _ (c.of_record-in-Neg.ensures _ (neg_child s p _ n)) c.expand_neg.ensures
