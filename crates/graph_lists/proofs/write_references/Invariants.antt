-- Each name's node is written behind the last; the loop keeps that the nodes of the first j names are put into the output.
use mathlib.Core.Path.{◌≡◌}
use Prim.Native.Nat.{◌≤◌}
use lib.ListN.{length, take}
use Rattle.slices.specs.Putting.{put}
use Rattle.graph_lists.specs.Lists.{node_numbers, marks_of}
use Rattle.graph_lists.proofs.write_references.Given as goal

abbrev pub invariant-loop-j : goal.invariant-loop-j
invariant-loop-j l =
    (l.j ≤ length l.names) × (length l.out ≡ length l.initial.out) × (l.out ≡ put l.initial.out l.to (node_numbers (marks_of l.scratch) (take l.j l.names)))
