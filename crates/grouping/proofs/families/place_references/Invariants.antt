-- Name by name. Kept: the terms of the lists so far are placed, and there is room for those of the rest.
use Rattle.grouping.proofs.RootItems.{RootsPassed}
use Rattle.grouping.proofs.families.place_references.Given as goal

abbrev pub invariant-loop-j : goal.invariant-loop-j
invariant-loop-j l = RootsPassed l.numbering l.names l.initial.groups l.initial.terms l.groups l.terms l.j
