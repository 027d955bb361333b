-- The variables stand in a row: `slot_vars`.
use mathlib.Core.Path.{sym, ap, ◌∙◌}
use mathlib.Core.List.{List}
use Prim.Native.Nat.{◌<◌}
use native.Mathlib.Omega.{arith}
use lib.ListN.{length}
use Rattle.semantics.specs.Monomial.{Monomial}
use Rattle.monomial.specs.Places.{vars_at}
use Rattle.monomial.proofs.Rows.{held_length}
use Rattle.monomial.proofs.Searches.{slot_vars}
use Rattle.monomial.proofs.work_list.WorkList.vars_of.Goals as goal

pub returns : goal.returns
returns c =
    let s = c.self.inside in
    let k = c.args.k in
    let h : k < s.count = omega (arith, c.requires, ap length c.self.view_is, held_length s.count s.work.now) in
    let v = c.row_vars.ensures in
    (v.0 ∙ sym (slot_vars s.work.now k s.count h) ∙ ap (λ (l : List Monomial). vars_at l k) c.self.view_is, v.1)
