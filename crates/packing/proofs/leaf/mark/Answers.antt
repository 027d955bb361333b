-- The first word that is not 0 refuses; where all four are 0, the leaf is the one of the kind.
use mathlib.Core.Path.{refl, sym, ap, ◌∙◌}
use borrow.Author.Tests.{eq-eqb, ne_eqb}
use Rattle.semantics.specs.Sheet.{record_of}
use Rattle.semantics.specs.Check.{judged}
use Rattle.packing.specs.Leaves.{leaf_answer}
use Rattle.packing.proofs.Laws.{mark_tests, leaf_said}
use Rattle.packing.proofs.leaf.mark.Goals as goal

pub returns-then-q-ne0 : goal.returns-then-q-ne0
unfolding judged
returns-then-q-ne0 c =
    let (low, high, is) = c.requires in
    ap leaf_answer c.wrong.ensures ∙ mark_tests _ _ _ _ _ low high (ne_eqb _ _ c.if-q-ne0.true) refl refl refl

pub returns-then-q-ne0-2 : goal.returns-then-q-ne0-2
unfolding judged
returns-then-q-ne0-2 c =
    let (low, high, is) = c.requires in
    ap leaf_answer c.wrong-then-q-ne0-2.ensures
    ∙ mark_tests _ _ _ _ _ low high (eq-eqb _ _ c.if-q-ne0.false) (ne_eqb _ _ c.if-q-ne0-2.true) refl refl

pub returns-then-q-ne0-3 : goal.returns-then-q-ne0-3
unfolding judged
returns-then-q-ne0-3 c =
    let (low, high, is) = c.requires in
    ap leaf_answer c.wrong-then-q-ne0-3.ensures
    ∙ mark_tests _ _ _ _ _ low high (eq-eqb _ _ c.if-q-ne0.false) (eq-eqb _ _ c.if-q-ne0-2.false) (ne_eqb _ _ c.if-q-ne0-3.true) refl

pub returns-then-q-ne0-4 : goal.returns-then-q-ne0-4
unfolding judged
returns-then-q-ne0-4 c =
    let (low, high, is) = c.requires in
    ap leaf_answer c.wrong-then-q-ne0-4.ensures
    ∙ mark_tests _ _ _ _ _ low high (eq-eqb _ _ c.if-q-ne0.false) (eq-eqb _ _ c.if-q-ne0-2.false) (eq-eqb _ _ c.if-q-ne0-3.false)
    (ne_eqb _ _ c.if-q-ne0-4.true)

pub returns : goal.returns
returns c =
    let (low, high, is) = c.requires in
    leaf_said c.args.leaf refl
    (is ∙ λ i. record_of c.args.q.kind (sym c.if-q-ne0.false i) (sym c.if-q-ne0-2.false i) (sym c.if-q-ne0-3.false i) (sym c.if-q-ne0-4.false i))
