-- The nodes are compared in ascending order; the loop keeps that no node passed is equal.
use mathlib.Core.Path.{◌≡◌}
use mathlib.Core.Bool.{false}
use Prim.Native.Nat.{ℕ, ◌≤◌, ◌<◌}
use Rattle.semantics.specs.Graph.{equal_records}
use Rattle.records.specs.Access.{five_words, node_in}
use Rattle.nodes.proofs.find_node.Given as goal

abbrev pub invariant-loop-i : goal.invariant-loop-i
invariant-loop-i l = (k : ℕ) → l.from ≤ k → k < l.i → equal_records (five_words l.r) (node_in l.out k) ≡ false
