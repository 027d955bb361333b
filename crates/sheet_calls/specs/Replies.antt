-- What the largest rotation is.
use mathlib.Core.List.{List, foldr}
use Rattle.std.specs.Prelude.{ℕ, max}
use Rattle.semantics.specs.Sheet.{Record}
use Rattle.semantics.specs.Graph.{rotation}

-- The largest offset of some records.
unfoldable pub largest : List Record → ℕ
largest rs = foldr (λ (r : Record) (n : ℕ). max (rotation r) n) 0 rs
