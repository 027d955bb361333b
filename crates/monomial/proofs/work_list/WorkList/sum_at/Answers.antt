-- The sum is stored in row k, by `sum_kept`. Where it is 0 the rows behind k are moved down by one, by `sum_out`.
use mathlib.Core.Path.{◌≡◌, sym, ap, subst, ◌∙◌}
use mathlib.Core.List.{List, ◌++◌}
use Prim.Native.Nat.{ℕ, ◌+◌, ◌*◌, ◌<◌}
use native.Mathlib.Omega.{arith}
use lib.ListN.{length, get_or, take, drop, length-set}
use Rattle.semantics.specs.Arithmetic.{prime, add_m}
use Rattle.semantics.specs.Lists.{All}
use Rattle.semantics.specs.Monomial.{Monomial, keep, plus}
use Rattle.monomial.specs.Words.{monomial_of, held, Fits}
use Rattle.monomial.specs.Places.{one}
use Rattle.monomial.proofs.Rows.{held_length}
use Rattle.monomial.proofs.Inserting.{sum_out, sum_kept, sum_fits}
use Rattle.monomial.proofs.work_list.WorkList.sum_at.Goals as goal

-- The list with a monomial summed into place k.
abbrev with_sum : Monomial → ℕ → List Monomial → List Monomial
with_sum m k l = take k l ++ keep (plus prime m (get_or l k one)) (drop (k + 1) l)

-- The sum, seen from the rows.
summed : {v b : ℕ} (m : Monomial) (l list : List Monomial) (k : ℕ) → v ≡ add_m prime m.coef b → b ≡ (get_or list k one).coef → l ≡ list
    → v ≡ add_m prime m.coef (get_or l k one).coef
summed m l list k e h q = e ∙ ap (add_m prime m.coef) (h ∙ ap (λ (z : List Monomial). (get_or z k one).coef) (sym q))

pub returns-then-sum-eq0 : goal.returns-then-sum-eq0
returns-then-sum-eq0 c =
    let s = c.self.inside in
    let ws = s.work.now in
    let k = c.args.k in
    let n = held_length s.count ws in
    let h : k < s.count = omega (arith, c.requires.0, ap length c.self.view_is, n) in
    let e = summed (monomial_of c.args.m.now) (held s.count ws) c.args.self.now k c.add-sum.ensures c.coef_of.ensures c.self.view_is in
    sum_out ws k s.count (omega (arith, c.self.invariant.0, c.self.invariant.1)) prime (monomial_of c.args.m.now) h c.add-sum.result e c.if-sum-eq0.true c.shift_down.new.s
    c.shift_down.ensures
    ∙ ap (with_sum (monomial_of c.args.m.now) k) c.self.view_is

pub invariant_of-self : goal.invariant_of-self
invariant_of-self c =
    let s = c.self.inside in
    let ws = s.work.now in
    let k = c.args.k in
    let n = held_length s.count ws in
    let h : k < s.count = omega (arith, c.requires.0, ap length c.self.view_is, n) in
    let e = summed (monomial_of c.args.m.now) (held s.count ws) c.args.self.now k c.add-sum.ensures c.coef_of.ensures c.self.view_is in
    let q =
    sum_out ws k s.count (omega (arith, c.self.invariant.0, c.self.invariant.1)) prime (monomial_of c.args.m.now) h c.add-sum.result e c.if-sum-eq0.true c.shift_down.new.s
    c.shift_down.ensures in (
      omega (arith, c.self.invariant.0),
      omega (arith, c.self.invariant.1, c.shift_down.auto.s),
      subst (All Fits) (sym q) (sum_fits (held s.count ws) k c.self.invariant.2 (monomial_of c.args.m.now) c.requires.1 (omega (arith, h, n))),
    )

pub returns-else-sum-eq0 : goal.returns-else-sum-eq0
returns-else-sum-eq0 c =
    let s = c.self.inside in
    let ws = s.work.now in
    let k = c.args.k in
    let n = held_length s.count ws in
    let h : k < s.count = omega (arith, c.requires.0, ap length c.self.view_is, n) in
    let e = summed (monomial_of c.args.m.now) (held s.count ws) c.args.self.now k c.add-sum.ensures c.coef_of.ensures c.self.view_is in
    sum_kept ws k s.count (omega (arith, c.self.invariant.0, c.self.invariant.1)) prime (monomial_of c.args.m.now) h c.add-sum.result e c.if-sum-eq0.false
    ∙ ap (with_sum (monomial_of c.args.m.now) k) c.self.view_is

pub invariant_of-self-else-sum-eq0 : goal.invariant_of-self-else-sum-eq0
invariant_of-self-else-sum-eq0 c =
    let s = c.self.inside in
    let ws = s.work.now in
    let k = c.args.k in
    let n = held_length s.count ws in
    let h : k < s.count = omega (arith, c.requires.0, ap length c.self.view_is, n) in
    let e = summed (monomial_of c.args.m.now) (held s.count ws) c.args.self.now k c.add-sum.ensures c.coef_of.ensures c.self.view_is in
    let q = sum_kept ws k s.count (omega (arith, c.self.invariant.0, c.self.invariant.1)) prime (monomial_of c.args.m.now) h c.add-sum.result e c.if-sum-eq0.false in (
      c.self.invariant.0,
      omega (arith, c.self.invariant.1, length-set ws (16 * k + 1) c.add-sum.result),
      subst (All Fits) (sym q) (sum_fits (held s.count ws) k c.self.invariant.2 (monomial_of c.args.m.now) c.requires.1 (omega (arith, h, n))),
    )
