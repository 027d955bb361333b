-- The second word of a row is its coefficient: `coef_at`.
use mathlib.Core.Path.{sym, ap, ◌∙◌}
use mathlib.Core.List.{List}
use Prim.Native.Nat.{◌<◌}
use native.Mathlib.Omega.{arith}
use lib.ListN.{length, get_or}
use Rattle.semantics.specs.Monomial.{Monomial}
use Rattle.monomial.specs.Places.{one}
use Rattle.monomial.proofs.Rows.{held_length}
use Rattle.monomial.proofs.Searches.{coef_at}
use Rattle.monomial.proofs.work_list.WorkList.coef_of.Goals as goal

pub returns : goal.returns
returns c =
    let s = c.self.inside in
    let h : c.args.k < s.count = omega (arith, c.requires, ap length c.self.view_is, held_length s.count s.work.now) in
    sym (coef_at s.work.now c.args.k s.count h) ∙ ap (λ (l : List Monomial). (get_or l c.args.k one).coef) c.self.view_is
