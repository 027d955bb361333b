-- The leaf is packed, and its list is one monomial of the packed variable, or the reason.
use mathlib.Core.Path.{sym, ap, subst, ◌∙◌}
use mathlib.Core.List.{[], ◌∷◌, ◌++◌}
use native.Mathlib.Omega.{arith}
use lib.ListN.{length}
use Rattle.records.specs.Access.{five_words}
use Rattle.monomial.specs.Words.{Fits}
use Rattle.monomial.proofs.Canons.{fits_single}
use Rattle.expand.proofs.Leaves.{single_made, leaf_refused}
use Rattle.expand.proofs.kinds.expand_leaf.Goals as goal

pub returns-in_default : goal.returns-in_default
returns-in_default c = let (own, ok) = c.requires.2 in leaf_refused own (five_words c.args.q) ok c.requires.1 _ c.pack-packed.ensures c.unwrap_err.ensures

pub put-requires : goal.put-requires
put-requires c = (omega (arith, ap length c.new-list.ensures), subst Fits (sym c.single.ensures.0) (fits_single c.in-Ok.v.0))

pub returns : goal.returns
returns c =
    let (own, ok) = c.requires.2 in
    single_made own (five_words c.args.q) ok c.requires.1 _ c.pack-packed.ensures c.in-Ok.is
    (c.put.ensures ∙ (λ i. c.new-list.ensures i ++ (c.single.ensures.0 i ∷ [])))
