-- What a part of the interactions of a checked sheet names is below the number of its records.
use mathlib.Core.Path.{◌≡◌, sym, subst}
use mathlib.Core.List.{List}
use Prim.Native.Nat.{ℕ}
use lib.ListN.{length}
use Rattle.semantics.specs.Sheet.{Interaction}
use Rattle.semantics.specs.Check.{read_sheet}
use Rattle.semantics.specs.Walk.{Below}
use Rattle.records.specs.declared.interactions.Part.{Part}
use Rattle.records.specs.Access.{IsSheet, records_of}
use Rattle.records.specs.Named.{parts_of}
use Rattle.records.proofs.Named.{parts_below}
use Rattle.expand.specs.Walks.{Walked}
use Rattle.expand.proofs.Walk.expand_part.Goals as goal

below_all : (ws : List ℕ) {all : List Interaction} → IsSheet ws → all ≡ (read_sheet ws).interactions → (part : Part)
    → Below (length (records_of ws)) (parts_of part all)
below_all ws checked e part =
    subst (λ (xs : List Interaction). Below (length (records_of ws)) (parts_of part xs)) (sym e) (parts_below ws checked part)

pub expand_each-requires : goal.expand_each-requires
expand_each-requires c =
    let w = c.args.self.now in
    (c.requires, below_all w.sheet.words.now w.sheet.checked c.interactions.ensures _)

pub returns : goal.returns
returns c =
    let e = c.expand_each in
    subst (λ (xs : List Interaction). Walked c.args.self.now (parts_of c.args.part xs) e.new.self e.result) c.interactions.ensures e.ensures
