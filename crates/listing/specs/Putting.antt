-- Bytes written to a slice from a place on.
use mathlib.Core.List.{List, ◌∷◌, flat_map}
use Rattle.std.specs.Prelude.{◌≡◌, ℕ, ◌+◌, ◌≤◌, length}
use Rattle.slices.specs.Putting.{Puts}
use Rattle.listing.specs.declared.output.Out.{Out}

-- There is room for some bytes.
abbrev pub Room : Out → (xs : List ℕ) → Type 0
Room out xs = out.at + length xs ≤ length out.bytes.now

-- They are written to the same slice, from where the output stood, and it goes on behind them.
pub record Writes (old : Out) (xs : List ℕ) (new : Out) : Type 0 where
  pub puts : Puts old.bytes.now old.at xs new.bytes.now new.at
  pub same : new.bytes.ghost_name ≡ old.bytes.ghost_name

-- A space and a text, for each number.
abbrev pub spaced : (ℕ → List ℕ) → List ℕ → List ℕ
spaced text ns = flat_map (λ (n : ℕ). 32 ∷ text n) ns
