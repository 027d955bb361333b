-- The first of a list.
use mathlib.Core.Path.{subst}
use mathlib.Core.List.{List}
use Prim.Native.Nat.{ℕ}
use lib.ListN.{take, drop, take-append-drop}
use Rattle.semantics.specs.Walk.{Mem}
use Rattle.semantics.proofs.Members.{mem_left}

-- What they hold, the list holds.
pub mem_take : (x j : ℕ) (xs : List ℕ) → Mem x (take j xs) → Mem x xs
mem_take x j xs m = subst (Mem x) (take-append-drop j xs) (mem_left x (take j xs) (drop j xs) m)
