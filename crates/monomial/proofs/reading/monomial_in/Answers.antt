use mathlib.Core.List.{List}
use mathlib.Core.Path.{◌≡◌, refl, ap, subst, ◌∙◌}
use Prim.Native.Nat.{ℕ, ◌+◌, ◌-◌}
use native.Mathlib.Omega.{arith}
use borrow.Author.Rules.{rules}
use lib.ListN.{get_or, take, drop, length-set, length-map, length-take, length-drop}
use lib.Seq.{get_or-take}
use Rattle.slices.proofs.Lists.{map_set, filled_more}
use Rattle.packed_var.specs.declared.PackedVar.{PackedVar}
use Rattle.monomial.specs.Words.{num, nums}
use Rattle.monomial.proofs.ListLaws.{vars_in_is}
use Rattle.monomial.proofs.Readings.{read_in}
use Rattle.monomial.proofs.reading.monomial_in.Goals as goal

pub slice_bounds-word-items-end : goal.slice_bounds-word-items-end
slice_bounds-word-items-end c = omega (arith, c.vars_in-count.ensures, vars_in_is c.args.words.now c.args.at, c.requires.0)

pub loop-i-init : goal.loop-i-init
loop-i-init c =
    let e = vars_in_is c.args.words.now c.args.at in
    (omega (arith, c.vars_in-count.ensures, c.requires.1), omega (arith, c.vars_in-count.ensures, e, c.requires.0), search rules, refl)

pub loop-i-preserved : goal.loop-i-preserved
loop-i-preserved c =
    let b = c.loop-i in
    let h = b.invariant in
    let D : List ℕ = drop (c.args.at + 2) c.args.words.now in
    let n : ℕ = c.args.at + 2 + c.vars_in-count.result - (c.args.at + 2) in
    let x : PackedVar = record { 0 = get_or (take n D) b.i 0 } in
    let l = length-map b.vars num in
    let d = length-drop (c.args.at + 2) c.args.words.now in (
      h.0,
      h.1,
      length-set b.vars b.i x ∙ h.2,
      ap (take (b.i + 1)) (map_set num b.vars b.i x)
          ∙ filled_more (nums b.vars) D b.i (num x) (omega arith) (omega arith) h.3 (get_or-take n D b.i 0 (omega (arith, length-take n D))),
    )

pub returns : goal.returns
returns c =
    let v = c.vars_in-count in
    let b = c.loop-i in
    let words = c.args.words.now in
    let D : List ℕ = drop (c.args.at + 2) words in
    let n : ℕ = c.args.at + 2 + v.result - (c.args.at + 2) in
    let q : b.i ≡ v.result = omega (arith, length-take n D, length-drop (c.args.at + 2) words, b.invariant.1) in
    (read_in words (nums b.vars) c.args.at v.result v.ensures (subst (λ (k : ℕ). take k (nums b.vars) ≡ take k D) q b.invariant.3), v.ensures)
