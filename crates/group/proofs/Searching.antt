-- The search for the variables of a monomial that stands in the pool, row by row.
use mathlib.Core.Path.{◌≡◌}
use mathlib.Core.List.{List}
use Prim.Native.Nat.{ℕ, ◌+◌, ◌*◌, ◌≤◌, ◌<◌}
use native.Mathlib.Omega.{arith}
use lib.ListN.{get_or, take, drop}
use Rattle.std.specs.declared.cmp.Ordering.{Ordering}
use Rattle.std.specs.declared.cmp.Ordering.TheVariants.{Less, Equal, Greater}
use Rattle.monomial.specs.Orders.{order_of}
use Rattle.std.specs.Prelude.{Ok}
use Rattle.group.specs.Grouped.{tallied, Rows, Spot, Between}
use Rattle.group.specs.Waiting.{pool_vars}
use Rattle.group.proofs.Headers.{tallied_length}
use Rattle.group.proofs.Counting.{told_at, between_all, between_low, between_high}

-- To begin with, all rows are to be searched.
pub rows_all : (n at : ℕ) (H P : List ℕ) → Between (pool_vars P at) (tallied n H P) 0 n
rows_all n at H P = between_all (pool_vars P at) (tallied n H P) n (tallied_length n H P)

-- What the order seen from row k leaves to search.
module _ {n : ℕ} {H P : List ℕ} (at : ℕ) (r : Rows n H P) {k low high : ℕ} (b : Between (pool_vars P at) (tallied n H P) low high) {o : Ordering}
    (e : o ≡ order_of (pool_vars P at) (take (get_or H (4 * k + 2) 0) (drop (get_or H (4 * k) 0 + 2) P))) (h : low ≤ k) (l : k < high) where
  inside : k < n
  inside = omega (arith, b.1, tallied_length n H P)

  pub row_same : o ≡ Equal → Spot (pool_vars P at) (tallied n H P) (Ok k)
  row_same q = (omega (arith, b.1), told_at n k H P (pool_vars P at) o Equal inside e q)

  pub row_before : o ≡ Less → Between (pool_vars P at) (tallied n H P) low k
  row_before q = between_low (pool_vars P at) (tallied n H P) low k high r.ascends b h l (told_at n k H P (pool_vars P at) o Less inside e q)

  pub row_after : o ≡ Greater → Between (pool_vars P at) (tallied n H P) (k + 1) high
  row_after q = between_high (pool_vars P at) (tallied n H P) low k high r.ascends b h l (told_at n k H P (pool_vars P at) o Greater inside e q)
