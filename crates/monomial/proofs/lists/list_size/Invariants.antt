-- The sizes are summed. The loop's invariant: the total is the size of the monomials so far.
use mathlib.Core.Path.{◌≡◌}
use Prim.Native.Nat.{◌≤◌}
use lib.ListN.{take}
use Rattle.semantics.specs.Expand.{list_size}
use Rattle.monomial.specs.Words.{held}
use Rattle.monomial.proofs.lists.list_size.Given as goal

abbrev pub invariant-loop-k : goal.invariant-loop-k
invariant-loop-k l = (l.k ≤ l.count) × (l.total ≡ list_size (take l.k (held l.count l.work)))
