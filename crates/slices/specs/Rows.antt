-- Words in rows.
use Rattle.std.specs.Prelude.{List, [], ◌∷◌, ℕ, zero, suc, take, drop}

-- The first n rows of a width.
unfoldable pub rows : (width n : ℕ) → List ℕ → List (List ℕ)
rows width zero ws = []
rows width (suc n) ws = take width ws ∷ rows width n (drop width ws)
