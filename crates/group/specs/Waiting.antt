-- Monomials that wait for a row while a list is counted.
use Rattle.std.specs.Prelude.{◌≡◌, Bool, true, false, Err, List, map, ℕ, suc, ◌≤◌, ◌<◌, length, get_or, take}
use Rattle.semantics.specs.Monomial.{before_vars}
use Rattle.group.specs.Grouped.{Tally, tally_all, tallied, Rows, Spot, monomial_in, MonomialInside}
use Rattle.group.specs.declared.waits.Waiting.{Waiting}

-- A monomial stands in the pool, at a place that a word can hold.
abbrev pub PlaceInside : (pool : List ℕ) (at : ℕ) → Type 0
PlaceInside pool at = (get_or pool at 0 ≤ 14) × MonomialInside pool at × (at ≤ 4294967295)

abbrev pub pool_vars : (pool : List ℕ) (at : ℕ) → List ℕ
pool_vars pool at = (monomial_in pool at).vars

-- What stands in the array where nothing waits yet.
abbrev pub nobody : Waiting
nobody = record { place = 0; front = 0 }

-- The variables of a monomial that waits.
abbrev pub waiting_vars : (pool : List ℕ) → Waiting → List ℕ
waiting_vars pool w = pool_vars pool w.place

-- The first b stand in the pool.
abbrev pub AllInside : (b : ℕ) (waits : List Waiting) (pool : List ℕ) → Type 0
AllInside b waits pool = (j : ℕ) → j < b → PlaceInside pool (get_or waits j nobody).place

-- The first b are monomials without a row, in ascending order, each with the row that it goes in front of.
pub record Pending (b : ℕ) (waits : List Waiting) (pool : List ℕ) (gs : List Tally) : Type 0 where
  pub some : 0 < length waits
  pub room : b ≤ length waits
  pub inside : AllInside b waits pool
  pub missing : (j : ℕ) → j < b → Spot (waiting_vars pool (get_or waits j nobody)) gs (Err (get_or waits j nobody).front)
  pub ascends : (j : ℕ) → suc j < b → before_vars (waiting_vars pool (get_or waits j nobody)) (waiting_vars pool (get_or waits (suc j) nobody)) ≡ true

-- The n rows, and the b monomials that wait.
pub record Batch (n b : ℕ) (headers pool : List ℕ) (waits : List Waiting) : Type 0 where
  pub rows_are : Rows n headers pool
  pub waiting : Pending b waits pool (tallied n headers pool)

-- What is counted, those that wait among it.
unfoldable pub batched : (n b : ℕ) (headers pool : List ℕ) (waits : List Waiting) → List Tally
batched n b headers pool waits = tally_all (map (waiting_vars pool) (take b waits)) (tallied n headers pool)

-- Whether the monomial that stands at `at` may wait behind the b that do.
abbrev pub MayFollow : (b : ℕ) (waits : List Waiting) (pool : List ℕ) (at : ℕ) → Bool → Type 0
MayFollow b waits pool at true = (b < length waits) × ((j : ℕ) → suc j ≡ b → before_vars (waiting_vars pool (get_or waits j nobody)) (pool_vars pool at) ≡ true)
MayFollow b waits pool at false = 0 < b
