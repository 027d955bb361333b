-- The nodes of the names are flagged one after the other; the loop keeps that scratch is the table of marks with the nodes of those passed flagged.
use mathlib.Core.Path.{◌≡◌}
use lib.ListN.{length, take}
use Rattle.nodes.specs.Memory.{tabulate}
use Rattle.graph_lists.specs.Lists.{flagged, node_numbers, marks_of}
use Rattle.graph_lists.proofs.flag_nodes.Given as goal

abbrev pub invariant-loop-r : goal.invariant-loop-r
invariant-loop-r l =
    l.scratch ≡ tabulate 0 (length l.initial.scratch) (flagged (marks_of l.initial.scratch) (node_numbers (marks_of l.initial.scratch) (take l.r-index l.names)))
