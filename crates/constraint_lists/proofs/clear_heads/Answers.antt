-- The words in front are filled with zeros, and those behind stay.
use mathlib.Core.Path.{ap, ◌∙◌}
use mathlib.Core.List.{List, ◌++◌}
use Prim.Native.Nat.{ℕ, ◌*◌}
use native.Mathlib.Omega.{arith}
use lib.ListN.{drop, replicate, length-take}
use Rattle.semantics.specs.Call.{zeros}
use Rattle.constraint_lists.proofs.clear_heads.Goals as goal

pub returns : goal.returns
unfolding zeros
returns c =
    let a = c.args in
    ap (λ (front : List ℕ). front ++ drop (2 * a.records) a.pool.now) (c.fill.ensures.after (λ y e. e))
    ∙ ap (λ (n : ℕ). replicate n 0 ++ drop (2 * a.records) a.pool.now) (omega (arith, length-take (2 * a.records) a.pool.now, c.requires))
