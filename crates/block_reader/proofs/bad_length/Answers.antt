-- Each branch decides one test of the definition.
use mathlib.Core.Bool.{true≢false}
use Rattle.std.proofs.Common.{◌∙◌, sym}
use borrow.Author.Tests.{eq-eqb, ne_eqb}
use Rattle.semantics.specs.Block.{bad_length}
use Rattle.block_reader.proofs.bad_length.Goals as goal
use Rattle.block_reader.proofs.bad_length.Goals.{then-n-eq0, else-n-eq0}

pub returns-then-n-ne0 : goal.returns-then-n-ne0
unfolding bad_length
returns-then-n-ne0 c =
    elim c.if-n-eq0.branch [
      | then-n-eq0 w ↦ c.if-n-ne0.true ∙ sym (simp (eq-eqb _ _ w.if-n-eq0.true))
      | else-n-eq0 w ↦ c.if-n-ne0.true ∙ sym (simp (ne_eqb _ _ w.if-n-eq0.false, sym w.value-is ∙ c.if-n-ne0.true))
    ]

pub returns-else-n-ne0 : goal.returns-else-n-ne0
unfolding bad_length
returns-else-n-ne0 c =
    elim c.if-n-eq0.branch [
      | then-n-eq0 w ↦ absurd (true≢false (sym (eq-eqb _ _ w.if-n-eq0.true) ∙ sym w.value-is ∙ c.if-n-ne0.false))
      | else-n-eq0 w ↦ sym (simp (ne_eqb _ _ w.if-n-eq0.false, sym w.value-is ∙ c.if-n-ne0.false))
    ]
