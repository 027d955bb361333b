-- Interaction by interaction. Kept: the terms of the parts so far are placed, and there is room for those of the rest.
use Rattle.std.specs.Iterator.Adapters.{enumerate_source, enumerate_count}
use Rattle.grouping.proofs.RootItems.{PartsPassed}
use Rattle.grouping.proofs.families.place_parts.Given as goal

abbrev pub invariant-loop-i : goal.invariant-loop-i
invariant-loop-i l =
    (goal.iterator-loop-i).can_next l.i-iterator × (goal.iterator-loop-i).is_finite l.i-iterator
    × PartsPassed l.part l.sheet.words.now l.initial.groups l.initial.terms l.groups l.terms (enumerate_count l.i-iterator) (enumerate_source l.i-iterator)
