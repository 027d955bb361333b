-- The place that C gets from a call whose outcome is known by an equation.
use mathlib.Core.Path.{◌≡◌, ap}
use mathlib.Core.List.{List}
use Prim.Native.Nat.{ℕ, ◌≤◌}
use native.Mathlib.Omega.{arith}
use Rattle.semantics.specs.Call.{Reply, Outcome}

-- A reply whose place is at most 4, or 0: 32 bits hold it.
module _ {r : Reply} {slices : List (List ℕ)} {o : Outcome} (e : ◌≡◌ {A = Outcome} (record { reply = r; slices = slices }) o) where
  pub low_place : o.reply.place ≤ 4 → r.place ≤ 4294967295
  low_place l = omega (arith, ap (λ (o : Outcome). o.reply.place) e, l)

  pub no_place : o.reply.place ≡ 0 → r.place ≤ 4294967295
  no_place z = low_place (omega (arith, z))
