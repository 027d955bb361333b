-- The products of each left monomial with the right list are summed. The loop's invariant: what is summed, with the products of the left monomials
-- that are left, gives the sum of all products (`Adding`), kept by `adding_next`; none that is left is longer than the longest.
use Prim.Native.Nat.{◌≤◌}
use Rattle.semantics.specs.Arithmetic.{prime}
use Rattle.semantics.specs.Monomial.{products}
use Rattle.monomial.specs.Words.{longest_of}
use Rattle.monomial.proofs.Summing.{Adding}
use Rattle.monomial.proofs.work_list.WorkList.sum_products.Given as goal

abbrev pub invariant-loop-l : goal.invariant-loop-l
invariant-loop-l l =
    Adding l.initial.self (products prime l.fn.left l.right) (products prime l.l-iterator l.right) l.self × (longest_of l.l-iterator ≤ longest_of l.fn.left)
