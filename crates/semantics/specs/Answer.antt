-- What a step of a call comes to.
use Rattle.std.specs.Prelude.{ℕ}

-- 01: "A refusal is a number and a place"; anything else is a result.
pub data Answer (X : Type 0) : Type 0 where
  good : X → Answer X
  refused : ℕ → ℕ → Answer X

-- The next step, unless this one refused.
unfoldable pub and_then : {X Y : Type 0} → Answer X → (X → Answer Y) → Answer Y
and_then (good x) f = f x
and_then (refused n k) f = refused n k
