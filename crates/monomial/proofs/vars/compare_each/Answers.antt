-- Two equal variables leave the order to what stands behind them; two that differ decide it.
use mathlib.Core.Path.{◌≡◌, refl, sym, ap, ◌∙◌}
use mathlib.Core.List.{List}
use Prim.Native.Nat.{ℕ, suc, ◌+◌, ◌<◌, ◌≤◌}
use native.Mathlib.Omega.{arith}
use lib.ListN.{length, get_or, drop}
use lib.Seq.{drop-cons}
use Rattle.std.proofs.lemmas.List.{drop_all}
use Rattle.std.specs.Cmp.{nat_cmp_is}
use Rattle.std.specs.Cmp.Lexicographic.{slice_cmp}
use Rattle.std.specs.Ordering.{nat_cmp, ordering_then}
use Rattle.std.specs.declared.cmp.Ordering.{Ordering}
use Rattle.std.specs.declared.cmp.Ordering.TheVariants.{Equal}
use Rattle.monomial.proofs.Orderings.{decided, equal_is}
use Rattle.monomial.proofs.vars.compare_each.Goals as goal

module _ (xs ys : List ℕ) (i : ℕ) (h : i < length xs) (k : i < length ys) where
  abbrev behind : Ordering
  behind = slice_cmp nat_cmp (drop (i + 1) xs) (drop (i + 1) ys)

  step : slice_cmp nat_cmp (drop i xs) (drop i ys) ≡ ordering_then (nat_cmp (get_or xs i 0) (get_or ys i 0)) behind
  step =
      let one : suc i ≡ i + 1 = omega arith in
      (λ j. slice_cmp nat_cmp (drop-cons xs i 0 h j) (drop-cons ys i 0 k j))
      ∙ ap (λ (m : ℕ). ordering_then (nat_cmp (get_or xs i 0) (get_or ys i 0)) (slice_cmp nat_cmp (drop m xs) (drop m ys))) one

  alike : get_or xs i 0 ≡ get_or ys i 0 → slice_cmp nat_cmp (drop i xs) (drop i ys) ≡ behind
  alike e = step ∙ ap (λ (o : Ordering). ordering_then o behind) (sym (nat_cmp_is (get_or xs i 0) (get_or ys i 0) Equal e))

  differ : {o : Ordering} → o ≡ nat_cmp (get_or xs i 0) (get_or ys i 0) → (o ≡ Equal → ⊥) → o ≡ slice_cmp nat_cmp (drop i xs) (drop i ys)
  differ {o} e n = decided o behind n ∙ ap (λ (p : Ordering). ordering_then p behind) e ∙ sym step

pub loop-i-init : goal.loop-i-init
loop-i-init c = refl

pub returns-then-left-i : goal.returns-then-left-i
returns-then-left-i c =
    let xs = c.args.left.now in
    let ys = c.args.right.now in
    let h = c.loop-i-test.true in
    let k : c.loop-i.i < length ys = omega (arith, h, c.requires) in
    differ xs ys c.loop-i.i h k c.cmp.ensures (λ e. c.if-left-i.true (equal_is _ _ c.cmp.ensures e)) ∙ c.loop-i.invariant

pub loop-i-preserved : goal.loop-i-preserved
loop-i-preserved c =
    let xs = c.args.left.now in
    let ys = c.args.right.now in
    let h = c.loop-i-test.true in
    let k : c.loop-i.i < length ys = omega (arith, h, c.requires) in
    sym (alike xs ys c.loop-i.i h k c.if-left-i.false) ∙ c.loop-i.invariant

pub returns : goal.returns
returns c =
    let xs = c.args.left.now in
    let ys = c.args.right.now in
    let i = c.loop-i.i in
    let n : length xs ≤ i = omega (arith, c.loop-i-test.false) in
    let m : length ys ≤ i = omega (arith, n, c.requires) in
    sym (λ j. slice_cmp nat_cmp (drop_all i xs n j) (drop_all i ys m j)) ∙ c.loop-i.invariant
