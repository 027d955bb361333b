-- Name by name. Kept: the monomials of the lists so far are counted, and those of the rest may be counted.
use Rattle.grouping.proofs.NamedLists.{NamesPassed}
use Rattle.grouping.proofs.families.tally_references.Given as goal

abbrev pub invariant-loop-r : goal.invariant-loop-r
invariant-loop-r l = NamesPassed l.names l.initial.groups l.groups l.r-index
