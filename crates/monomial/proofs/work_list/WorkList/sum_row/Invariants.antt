-- Each monomial of the list is multiplied by the left one, and summed. The loop's invariant: what is summed, with the products that are left,
-- gives the sum of all (`Adding`), kept by `adding_more`; none that is left is longer than the longest, kept by `short_next`.
use mathlib.Core.List.{map}
use Prim.Native.Nat.{◌≤◌}
use Rattle.semantics.specs.Arithmetic.{prime}
use Rattle.semantics.specs.Monomial.{mul_monomial}
use Rattle.monomial.specs.Words.{monomial_of, longest_of}
use Rattle.monomial.proofs.Summing.{Adding}
use Rattle.monomial.proofs.work_list.WorkList.sum_row.Given as goal

abbrev pub invariant-loop-right : goal.invariant-loop-right
invariant-loop-right l =
    Adding l.initial.self (map (mul_monomial prime (monomial_of l.left)) l.fn.list) (map (mul_monomial prime (monomial_of l.left)) l.right-iterator) l.self
    × (longest_of l.right-iterator ≤ longest_of l.fn.list)
