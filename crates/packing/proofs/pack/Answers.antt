-- The words are refused, or say a leaf, which is packed.
use mathlib.Core.Path.{◌∙◌}
use Rattle.packing.proofs.Laws.{pack_refused, pack_said, first_packs, last_packs, transition_packs}
use Rattle.packing.proofs.pack.Goals as goal

pub returns-in_default : goal.returns-in_default
returns-in_default c = pack_refused _ c.leaf_of-read.ensures c.unwrap_err.ensures

pub returns-in-Variable : goal.returns-in-Variable
returns-in-Variable c =
    c.from_symbolic_var.ensures ∙ pack_said _ c.leaf_of-read.ensures c.in-Ok.is c.in-Variable.is

pub returns-in-IsFirstRow : goal.returns-in-IsFirstRow
returns-in-IsFirstRow c =
    first_packs _ c.is_first.ensures ∙ pack_said _ c.leaf_of-read.ensures c.in-Ok.is c.in-IsFirstRow.is

pub returns-in-IsLastRow : goal.returns-in-IsLastRow
returns-in-IsLastRow c =
    last_packs _ c.is_last.ensures ∙ pack_said _ c.leaf_of-read.ensures c.in-Ok.is c.in-IsLastRow.is

pub returns-in-IsTransition : goal.returns-in-IsTransition
returns-in-IsTransition c =
    transition_packs _ c.is_transition.ensures ∙ pack_said _ c.leaf_of-read.ensures c.in-Ok.is c.in-IsTransition.is
