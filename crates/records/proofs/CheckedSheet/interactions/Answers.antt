-- Behind the constraints as many interactions stand as the head says.
use mathlib.Core.Path.{sym, ap, subst, ◌∙◌}
use mathlib.Core.List.{◌++◌, flat_map}
use Prim.Native.Nat.{ℕ}
use native.Mathlib.Omega.{arith}
use lib.ListN.{drop}
use Rattle.std.proofs.lemmas.List.{take_rest}
use Rattle.semantics.specs.Sheet.{interaction_words}
use Rattle.semantics.specs.Check.{read_sheet, read_interactions}
use Rattle.semantics.proofs.Encoding.{interactions_back}
use Rattle.records.specs.Access.{InteractionsStand}
use Rattle.records.proofs.Reading.{places_small, interactions_stand, interactions_within}
use Rattle.records.proofs.Standing.{words_stand}
use Rattle.records.proofs.CheckedSheet.interactions.Goals as goal

pub offset_bounds-self-interactions_at : goal.offset_bounds-self-interactions_at
offset_bounds-self-interactions_at c = omega (arith, c.interactions_at.ensures, (places_small c.args.self.words.now c.args.self.checked).1)

pub slice_bounds-new-count : goal.slice_bounds-new-count
slice_bounds-new-count c = omega (arith, c.interactions_at.ensures, interactions_within c.args.self.words.now c.args.self.checked)

pub slice_bounds-new-start : goal.slice_bounds-new-start
slice_bounds-new-start c = slice_bounds-new-count c

pub new-requires : goal.new-requires
new-requires c =
    let ws = c.args.self.words.now in
    let i = interactions_stand ws c.args.self.checked in
    let e = take_rest ws c.interactions_at.result ∙ ap (λ (n : ℕ). drop n ws) c.interactions_at.ensures ∙ i.1 in
    subst (InteractionsStand c.num_interactions.result) (sym e)
    (subst (λ (n : ℕ). InteractionsStand n (flat_map interaction_words (read_sheet ws).interactions ++ i.0)) (sym c.num_interactions.ensures)
    (words_stand (read_sheet ws).interactions i.0))

pub returns : goal.returns
returns c =
    let ws = c.args.self.words.now in
    let i = interactions_stand ws c.args.self.checked in
    let e = take_rest ws c.interactions_at.result ∙ ap (λ (n : ℕ). drop n ws) c.interactions_at.ensures ∙ i.1 in
    c.new.ensures ∙ (λ j. read_interactions (c.num_interactions.ensures j) (e j)) ∙ interactions_back (read_sheet ws).interactions i.0
