-- The constraints are the words from where they start to where the interactions start.
use mathlib.Core.Path.{◌≡◌, ◌∙◌}
use Prim.Native.Nat.{◌-◌}
use native.Mathlib.Omega.{arith}
use lib.ListN.{length, take, drop}
use Rattle.semantics.specs.Check.{read_sheet}
use Rattle.records.proofs.Reading.{constraints_are, interactions_within, places_small}
use Rattle.records.proofs.CheckedSheet.constraints.Goals as goal

pub offset_bounds-self-constraints_at : goal.offset_bounds-self-constraints_at
offset_bounds-self-constraints_at c = omega (arith, c.constraints_at.ensures, (places_small c.args.self.words.now c.args.self.checked).0)

pub slice_bounds-result-end : goal.slice_bounds-result-end
slice_bounds-result-end c =
    omega (arith, interactions_within c.args.self.words.now c.args.self.checked, c.constraints_at.ensures, c.interactions_at.ensures)

pub returns : goal.returns
returns c =
    let ws = c.args.self.words.now in
    let count : c.interactions_at.result - c.constraints_at.result ≡ length (read_sheet ws).constraints =
    omega (arith, c.constraints_at.ensures, c.interactions_at.ensures) in
    (λ i. take (count i) (drop (c.constraints_at.ensures i) ws)) ∙ constraints_are ws c.args.self.checked
