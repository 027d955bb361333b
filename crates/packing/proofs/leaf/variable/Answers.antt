-- The words are tested in their order, and the first that fails refuses; the entry says which of them the variable has.
use mathlib.Core.Path.{◌≡◌, refl, sym, ap, ◌∙◌}
use borrow.Author.Rules.{rules}
use borrow.Author.Tests.{le-leb, lt-leb, eq-eqb, ne_eqb}
use Rattle.semantics.specs.Sheet.{record_of}
use Rattle.semantics.specs.Check.{judged}
use Rattle.packing.specs.Leaves.{leaf_answer}
use Rattle.packing.proofs.Laws.{variable_tests, leaf_said}
use Rattle.packing.proofs.leaf.variable.Goals as goal

pub returns-then-q-gt3 : goal.returns-then-q-gt3
unfolding judged
returns-then-q-gt3 c =
    ap leaf_answer c.wrong.ensures
    ∙ variable_tests _ _ _ _ (lt-leb _ _ c.if-q-gt3.true) refl refl refl refl

pub returns-then-q-eq1 : goal.returns-then-q-eq1
returns-then-q-eq1 c =
    let q = c.args.q in
    leaf_said _ c.variable_of.ensures (λ i. record_of 1 (sym c.if-q-eq1.true i) q.b q.c q.d)

pub returns-then-q-ne0 : goal.returns-then-q-ne0
unfolding judged
returns-then-q-ne0 c =
    ap leaf_answer c.wrong-then-q-ne0.ensures
    ∙ variable_tests _ _ _ _ (le-leb _ _ c.if-q-gt3.false) (ne_eqb _ _ c.if-q-eq1.false) (ne_eqb _ _ c.if-q-ne0.true) refl refl

pub returns-then-q-eq0 : goal.returns-then-q-eq0
returns-then-q-eq0 c =
    let q = c.args.q in
    leaf_said _ c.variable_of-then-q-eq0.ensures (λ i. record_of 1 (sym c.if-q-eq0.true i) (sym c.if-q-ne0.false i) q.c q.d)

pub returns-then-q-ne0-2 : goal.returns-then-q-ne0-2
unfolding judged
returns-then-q-ne0-2 c =
    ap leaf_answer c.wrong-then-q-ne0-2.ensures
    ∙ variable_tests _ _ _ _ (le-leb _ _ c.if-q-gt3.false) (ne_eqb _ _ c.if-q-eq1.false) (eq-eqb _ _ c.if-q-ne0.false)
    (lt-leb c.args.q.a 1 (search rules)) (ne_eqb _ _ c.if-q-ne0-2.true)

pub returns-then-q-eq2 : goal.returns-then-q-eq2
returns-then-q-eq2 c =
    leaf_said _ c.variable_of-then-q-eq2.ensures
    (λ i. record_of 1 (sym c.if-q-eq2.true i) (sym c.if-q-ne0.false i) (sym c.if-q-ne0-2.false i) c.args.q.d)

pub returns : goal.returns
returns c =
    let q = c.args.q in
    let e : q.a ≡ 3 = search rules in
    leaf_said _ c.variable_of-2.ensures (λ i. record_of 1 (sym e i) (sym c.if-q-ne0.false i) (sym c.if-q-ne0-2.false i) q.d)
