-- What the interactions of a checked sheet name is below the number of its records.
use mathlib.Core.Path.{sym, subst}
use mathlib.Core.List.{List}
use Rattle.semantics.specs.Sheet.{Interaction}
use Rattle.semantics.specs.Walk.{Below}
use Rattle.records.specs.Named.{references}
use Rattle.records.proofs.Named.{all_references_below}
use Rattle.graph_walk.specs.Walking.{Walks}
use Rattle.graph_walk.proofs.Rooting.{size}
use Rattle.graph_walk.proofs.Walk.add_interactions.Goals as goal

pub add_each-requires : goal.add_each-requires
add_each-requires c =
    let w = c.args.self.now in
    let below = all_references_below w.sheet.words.now w.sheet.checked in
    (c.requires, subst (λ (xs : List Interaction). Below (size w) (references xs)) (sym c.interactions.ensures) below)

pub returns : goal.returns
returns c =
    let w = c.args.self.now in
    subst (λ (xs : List Interaction). Walks w (references xs) c.add_each.new.self) c.interactions.ensures c.add_each.ensures
