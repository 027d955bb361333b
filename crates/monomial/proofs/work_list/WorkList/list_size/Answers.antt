-- The list stands in the work, and is one that may be held.
use mathlib.Core.Path.{◌≡◌, ap, subst, ◌∙◌}
use native.Mathlib.Omega.{arith}
use lib.ListN.{length}
use Rattle.semantics.specs.Expand.{list_size}
use Rattle.semantics.specs.Lists.{All}
use Rattle.monomial.specs.Words.{Fits}
use Rattle.monomial.proofs.Rows.{held_length}
use Rattle.monomial.proofs.work_list.WorkList.list_size.Goals as goal

pub returns : goal.returns
returns c =
    let s = c.self.inside in
    let e : length c.args.self.now ≡ s.count = omega (arith, ap length c.self.view_is, held_length s.count s.work.now) in (
      c.list_size.ensures ∙ ap list_size c.self.view_is,
      record { few = omega (arith, e, c.self.invariant.0); fit = subst (All Fits) c.self.view_is c.self.invariant.2 },
    )
