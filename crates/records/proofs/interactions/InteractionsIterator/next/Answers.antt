-- The interaction in front is handed out, and those behind it are left.
use mathlib.Core.Path.{sym, ap, ◌∙◌}
use Prim.Native.Nat.{ℕ}
use native.Mathlib.Omega.{arith}
use lib.ListN.{length}
use Rattle.semantics.specs.Check.{read_interactions}
use Rattle.records.proofs.Standing.{none_read, first_within, left_stand, left_read}
use Rattle.records.proofs.interactions.InteractionsIterator.next.Goals as goal

pub returns-then-self-eq0-clause-steps : goal.returns-then-self-eq0-clause-steps
returns-then-self-eq0-clause-steps c =
    let s = c.self.inside in
    let e = sym c.self.view_is ∙ ap (λ (n : ℕ). read_interactions n s.words.now) c.if-self-eq0.true ∙ none_read s.words.now in
    (e, e)

pub slice_bounds-self-count : goal.slice_bounds-self-count
slice_bounds-self-count c =
    let s = c.self.inside in
    first_within s.words.now s.count c.if-self-eq0.false c.self.invariant c.interaction_at-x.ensures c.word_count.ensures

pub slice_bounds-self-start : goal.slice_bounds-self-start
slice_bounds-self-start c = slice_bounds-self-count c

pub offset_bounds-self-inside-word_count : goal.offset_bounds-self-inside-word_count
offset_bounds-self-inside-word_count c = omega (arith, slice_bounds-self-count c, c.type_inv.self-inside.0.0.1.1)

pub invariant_of-self : goal.invariant_of-self
invariant_of-self c =
    let s = c.self.inside in
    left_stand s.words.now s.count c.if-self-eq0.false c.self.invariant c.interaction_at-x.ensures c.word_count.ensures

pub returns-clause-steps : goal.returns-clause-steps
returns-clause-steps c =
    let s = c.self.inside in
    sym c.self.view_is ∙ left_read s.words.now s.count c.if-self-eq0.false c.self.invariant c.interaction_at-x.ensures c.word_count.ensures

pub returns-clause-goes : goal.returns-clause-goes
returns-clause-goes c = record { on = λ _. (tt, tt, omega (arith, ap length (returns-clause-steps c))); keeps = tt; rests = λ _. tt }
