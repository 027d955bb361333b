-- The monomial that stands in front is handed out, and the list behind it is left: `first_cons`, `first_rest`.
use mathlib.Core.Path.{sym, ap, subst, ◌∙◌}
use mathlib.Core.List.{◌∷◌}
use Prim.Native.Nat.{◌+◌, ◌-◌}
use native.Mathlib.Omega.{arith}
use lib.ListN.{length, drop}
use Rattle.semantics.specs.Monomial.{Monomial}
use Rattle.monomial.specs.Words.{list_in, Fits}
use Rattle.monomial.proofs.ListLaws.{list_zero, first_front, first_rest, first_cons}
use Rattle.monomial.proofs.reading.MonomialsIterator.next.Goals as goal

pub returns-then-self-eq0-clause-steps : goal.returns-then-self-eq0-clause-steps
returns-then-self-eq0-clause-steps c =
    let s = c.self.inside in
    let e = sym c.self.view_is ∙ ap (list_in s.words.now s.at) c.if-self-eq0.true ∙ list_zero (drop s.at s.words.now) in
    (e, e)

pub monomial_in-m-requires : goal.monomial_in-m-requires
monomial_in-m-requires c =
    let s = c.self.inside in
    let front = first_front s.words.now s.at s.count 0 c.if-self-eq0.false c.self.invariant in
    (omega (arith, front.room), front.short)

pub invariant_of-self : goal.invariant_of-self
invariant_of-self c =
    let s = c.self.inside in
    let m = c.monomial_in-m in
    first_rest s.words.now s.at s.count m.result.count c.if-self-eq0.false m.ensures.1 c.self.invariant

pub returns-clause-steps : goal.returns-clause-steps
returns-clause-steps c =
    let s = c.self.inside in
    let m = c.monomial_in-m in
    let front = first_front s.words.now s.at s.count 0 c.if-self-eq0.false c.self.invariant in (
      sym c.self.view_is ∙ first_cons s.words.now s.at s.count m.result.count c.if-self-eq0.false m.ensures.1
          ∙ ap (λ (x : Monomial). x ∷ list_in s.words.now (s.at + (2 + m.result.count)) (s.count - 1)) (sym m.ensures.0),
      subst Fits (sym m.ensures.0) front.one,
    )

pub returns-clause-goes : goal.returns-clause-goes
returns-clause-goes c =
    let s = c.self.inside in
    let m = c.monomial_in-m in
    let e = sym c.self.view_is ∙ first_cons s.words.now s.at s.count m.result.count c.if-self-eq0.false m.ensures.1 in
    record { on = λ _. (tt, tt, omega (arith, ap length e)); keeps = tt; rests = λ _. tt }
