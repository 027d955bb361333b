-- The variables stand from the third word of a row on.
use mathlib.Core.Path.{◌≡◌, ap, ◌∙◌}
use Prim.Native.Nat.{ℕ, ◌+◌, ◌*◌, ◌-◌}
use native.Mathlib.Omega.{arith}
use lib.ListN.{take, drop, length-take}
use Rattle.monomial.proofs.lists.row_vars.Goals as goal

pub returns : goal.returns
returns c =
    let ws = c.args.work.now in
    let k = c.args.k in
    let n : 16 * k + 2 + c.min-count.result - (16 * k + 2) ≡ c.min-count.result = omega arith in (
      ap (λ (i : ℕ). take i (drop (16 * k + 2) ws)) (n ∙ c.min-count.ensures),
      omega (arith, n, c.min-count.ensures, length-take (16 * k + 2 + c.min-count.result - (16 * k + 2)) (drop (16 * k + 2) ws)),
    )
