-- The list stands in the work, and its words are written.
use mathlib.Core.Path.{ap, ◌∙◌}
use mathlib.Core.List.{List, ◌++◌}
use native.Mathlib.Omega.{arith}
use lib.ListN.{drop}
use Rattle.semantics.specs.Monomial.{Monomial}
use Rattle.semantics.specs.Expand.{list_size}
use Rattle.monomial.specs.Words.{list_words}
use Rattle.monomial.proofs.work_list.WorkList.write_to.Goals as goal

pub write_list-requires : goal.write_list-requires
write_list-requires c =
    let i = c.self.invariant in
    (i.0, omega (arith, i.0, i.1), i.2, omega (arith, c.requires, ap list_size c.self.view_is))

pub returns : goal.returns
returns c = c.write_list.ensures ∙ ap (λ (l : List Monomial). list_words l ++ drop (list_size l) c.args.out.now) c.self.view_is
