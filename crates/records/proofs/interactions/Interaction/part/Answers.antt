-- The count is the third word.
use mathlib.Core.Path.{sym, ◌∙◌}
use Rattle.semantics.specs.Check.{read_interaction}
use Rattle.records.proofs.Standing.{count_read}
use Rattle.records.specs.Named.{part_of}
use Rattle.records.proofs.interactions.Interaction.part.Goals as goal

pub returns-in-Count : goal.returns-in-Count
returns-in-Count c =
    let x = c.args.self.now in
    count_read x.words.now x.whole ∙ λ i. part_of (sym c.in-Count.is i) (read_interaction x.words.now)
