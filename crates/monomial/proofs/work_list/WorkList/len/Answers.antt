-- The list has as many monomials as rows are used.
use mathlib.Core.Path.{◌≡◌, sym, ap, subst, ◌∙◌}
use native.Mathlib.Omega.{arith}
use lib.ListN.{length}
use Rattle.monomial.specs.Words.{held, FitsList}
use Rattle.monomial.proofs.Rows.{held_length}
use Rattle.monomial.proofs.work_list.WorkList.len.Goals as goal

pub returns : goal.returns
returns c =
    let s = c.self.inside in
    let e : length (held s.count s.work.now) ≡ s.count = held_length s.count s.work.now in
    (sym e ∙ ap length c.self.view_is, subst FitsList c.self.view_is (record { few = omega (arith, e, c.self.invariant.0); fit = c.self.invariant.2 }))
