-- The tests come in the order of 8 to 11 for each entry, and what passes them is packed.
use mathlib.Core.Path.{◌≡◌, refl, ap, ◌∙◌}
use mathlib.Core.Bool.{false}
use lib.Dec.{ltb}
use borrow.Author.Tests.{lt-ltb, le-ltb}
use Rattle.semantics.specs.Answer.{good}
use Rattle.std.specs.Prelude.{Ok}
use Rattle.packed_var.proofs.Answers.{packed_answer}
use Rattle.packed_var.proofs.Laws.{variable_faults, column_wrong, entry_packs}
use Rattle.packed_var.proofs.PackedVar.from_symbolic_var.Goals as goal

pub returns-then-var-gt65535 : goal.returns-then-var-gt65535
returns-then-var-gt65535 c =
    column_wrong _ c.refused.result c.args.var.entry c.refused.ensures c.if-var-gt65535.true

pub returns-then-part_index-gt255 : goal.returns-then-part_index-gt255
returns-then-part_index-gt255 c =
    let column_fits : ltb 65535 c.args.var.index ≡ false =
    le-ltb _ _ c.if-var-gt65535.false in
    entry_packs _ c.refused-then-part_index-gt255.result c.in-Main.is
    (ap packed_answer c.refused-then-part_index-gt255.ensures
    ∙ variable_faults _ _ _ _ column_fits refl (lt-ltb _ _ c.if-part_index-gt255.true) refl)

pub returns-then-offset-gt15 : goal.returns-then-offset-gt15
returns-then-offset-gt15 c =
    let column_fits : ltb 65535 c.args.var.index ≡ false =
    le-ltb _ _ c.if-var-gt65535.false in
    entry_packs _ c.refused-then-offset-gt15.result c.in-Main.is
    (ap packed_answer c.refused-then-offset-gt15.ensures
    ∙ variable_faults _ _ _ _ column_fits refl (le-ltb _ _ c.if-part_index-gt255.false) (lt-ltb _ _ c.if-offset-gt15.true))

pub returns-then-offset-gt15-2 : goal.returns-then-offset-gt15-2
returns-then-offset-gt15-2 c =
    let column_fits : ltb 65535 c.args.var.index ≡ false =
    le-ltb _ _ c.if-var-gt65535.false in
    entry_packs _ c.refused-then-offset-gt15-2.result c.in-Preprocessed.is
    (ap packed_answer c.refused-then-offset-gt15-2.ensures
    ∙ variable_faults _ _ _ _ column_fits refl refl (lt-ltb _ _ c.if-offset-gt15-2.true))

pub returns-else-offset-gt15 : goal.returns-else-offset-gt15
returns-else-offset-gt15 c =
    let column_fits : ltb 65535 c.args.var.index ≡ false =
    le-ltb _ _ c.if-var-gt65535.false in
    entry_packs _ (Ok c.new.result) c.in-Main.is
    (ap good c.new.ensures
    ∙ variable_faults _ _ _ _ column_fits refl (le-ltb _ _ c.if-part_index-gt255.false) (le-ltb _ _ c.if-offset-gt15.false))

pub returns-else-offset-gt15-2 : goal.returns-else-offset-gt15-2
returns-else-offset-gt15-2 c =
    let column_fits : ltb 65535 c.args.var.index ≡ false =
    le-ltb _ _ c.if-var-gt65535.false in
    entry_packs _ (Ok c.new-in-Preprocessed.result) c.in-Preprocessed.is
    (ap good c.new-in-Preprocessed.ensures
    ∙ variable_faults _ _ _ _ column_fits refl refl (le-ltb _ _ c.if-offset-gt15-2.false))

pub returns-in-Public : goal.returns-in-Public
returns-in-Public c =
    let column_fits : ltb 65535 c.args.var.index ≡ false =
    le-ltb _ _ c.if-var-gt65535.false in
    entry_packs _ (Ok c.new-in-Public.result) c.in-Public.is
    (ap good c.new-in-Public.ensures ∙ variable_faults _ _ _ _ column_fits refl refl refl)

pub returns-in-Challenge : goal.returns-in-Challenge
returns-in-Challenge c =
    let column_fits : ltb 65535 c.args.var.index ≡ false =
    le-ltb _ _ c.if-var-gt65535.false in
    entry_packs _ c.refused-in-Challenge.result c.in-Challenge.is
    (ap packed_answer c.refused-in-Challenge.ensures ∙ variable_faults _ _ _ _ column_fits refl refl refl)
