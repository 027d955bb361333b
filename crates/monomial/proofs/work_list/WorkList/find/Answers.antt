use mathlib.Core.Path.{◌≡◌, sym, ap, subst, ◌∙◌}
use mathlib.Core.List.{List}
use Prim.Native.Nat.{ℕ, ◌+◌, ◌/◌, ◌<◌}
use native.Mathlib.Omega.{arith}
use lib.ListN.{length, take}
use Rattle.monomial.specs.Places.{FirstBefore, RestAfter}
use Rattle.monomial.proofs.Readings.{first_vars}
use Rattle.monomial.proofs.Rows.{held_length}
use Rattle.monomial.proofs.Searches.{sought, found_equal, found_greater, found_less}
use Rattle.monomial.proofs.work_list.WorkList.find.Goals as goal

pub loop-low-init : goal.loop-low-init
loop-low-init c =
    let s = c.self.inside in
    let n : length c.args.self.now ≡ s.count = sym (ap length c.self.view_is) ∙ held_length s.count s.work.now in
    (omega arith, omega arith, λ i h. absurd (omega arith), λ i h k. absurd (omega arith))

pub overflow_add-k : goal.overflow_add-k
overflow_add-k c =
    let s = c.self.inside in
    let n : length c.args.self.now ≡ s.count = sym (ap length c.self.view_is) ∙ held_length s.count s.work.now in
    omega (arith, c.self.invariant.0, c.loop-low.invariant.1)

pub returns-in-Equal : goal.returns-in-Equal
returns-in-Equal c =
    let l = c.loop-low in
    let mine = sought (take c.len.result c.numbers-numbers.result) in
    let h : (l.low + l.high) / 2 < length c.args.self.now = omega (arith, l.invariant.1) in (
      h,
      found_equal mine c.args.self.now ((l.low + l.high) / 2) h c.compare.result c.vars_of.result.now c.vars_of.ensures.0 c.compare.ensures c.in-Equal.is
          ∙ ap (take c.len.result) c.numbers-numbers.ensures ∙ first_vars c.args.m.now c.len.result c.len.ensures.0,
    )

pub loop-low-preserved-in-Greater : goal.loop-low-preserved-in-Greater
loop-low-preserved-in-Greater c =
    let l = c.loop-low in
    let mine = sought (take c.len.result c.numbers-numbers.result) in
    let h : (l.low + l.high) / 2 < length c.args.self.now = omega (arith, l.invariant.1) in (
      omega arith,
      l.invariant.1,
      found_greater mine c.args.self.now ((l.low + l.high) / 2) h c.compare.result c.vars_of.result.now c.vars_of.ensures.0 c.compare.ensures c.requires c.in-Greater.is,
      l.invariant.3,
    )

pub loop-low-preserved : goal.loop-low-preserved
loop-low-preserved c =
    let l = c.loop-low in
    let mine = sought (take c.len.result c.numbers-numbers.result) in
    let h : (l.low + l.high) / 2 < length c.args.self.now = omega (arith, l.invariant.1) in (
      omega arith,
      omega (arith, l.invariant.1),
      l.invariant.2,
      found_less mine c.args.self.now ((l.low + l.high) / 2) h c.compare.result c.vars_of.result.now c.vars_of.ensures.0 c.compare.ensures c.requires c.in-Less.is,
    )

pub returns : goal.returns
returns c =
    let h = c.loop-low.invariant in
    let low = c.loop-low.low in
    let e = ap (take c.len.result) c.numbers-numbers.ensures ∙ first_vars c.args.m.now c.len.result c.len.ensures.0 in (
      omega (arith, h.0, h.1),
      subst (λ (v : List ℕ). FirstBefore (sought v) c.args.self.now low) e h.2,
      subst (λ (v : List ℕ). RestAfter (sought v) c.args.self.now low) e (λ i k m. h.3 i (omega arith) m),
    )
