-- The largest message length, interaction by interaction.
use mathlib.Core.Path.{◌≡◌, ap}
use mathlib.Core.List.{List, [], ◌∷◌, foldr}
use Prim.Native.Nat.{ℕ, max}
use native.Mathlib.Omega.{arith}
use lib.ListN.{length}
use Rattle.semantics.specs.Sheet.{Interaction}
use Rattle.semantics.specs.Check.{read_sheet}
use Rattle.semantics.specs.Call.{max_fields_len_of}

abbrev longest : List Interaction → ℕ
longest xs = foldr (λ (x : Interaction) (n : ℕ). max (length x.message) n) 0 xs

-- What holds while the lengths are looked at: the largest so far and what is left give the whole.
pub record Looking (ws : List ℕ) (most : ℕ) (left : List Interaction) : Type 0 where
  pub whole : max most (longest left) ≡ max_fields_len_of (read_sheet ws)

pub looking_none : {ws : List ℕ} {left : List Interaction} → left ≡ (read_sheet ws).interactions → Looking ws 0 left
unfolding max_fields_len_of
looking_none e = record { whole = omega (arith, ap longest e) }

module _ {ws : List ℕ} {most : ℕ} {left : List Interaction} (h : Looking ws most left) where
  pub looking_done : left ≡ [] → most ≡ max_fields_len_of (read_sheet ws)
  looking_done e = omega (arith, h.whole, ap longest e)

  pub looking_more : {x : Interaction} {rest : List Interaction} → left ≡ x ∷ rest → {most' : ℕ} → most' ≡ max most (length x.message) → Looking ws most' rest
  looking_more e q = record { whole = omega (arith, h.whole, ap longest e, q) }
