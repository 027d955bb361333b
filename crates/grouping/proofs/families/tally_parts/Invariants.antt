-- Interaction by interaction. Kept: the monomials of the lists of the parts so far are counted, and those of the rest may be counted.
use Rattle.semantics.specs.Check.{read_sheet}
use Rattle.records.specs.Named.{parts_of}
use Rattle.grouping.proofs.NamedLists.{NamesLeft}
use Rattle.grouping.proofs.families.tally_parts.Given as goal

abbrev pub invariant-loop-x : goal.invariant-loop-x
invariant-loop-x l = NamesLeft l.initial.groups (parts_of l.part (read_sheet l.sheet.words.now).interactions) l.groups (parts_of l.part l.x-iterator)
