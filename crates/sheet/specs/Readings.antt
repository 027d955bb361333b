-- Where the reading of a sheet stands.
use Rattle.std.specs.Prelude.{List, ℕ}
use Rattle.semantics.specs.Check.{Scan, reading}

-- The index of the next word, and the words from there on.
pub record Reading : Type 0 where
  pub at : ℕ
  pub words : List ℕ

-- The scan that stands there.
abbrev pub from : Reading → Scan
from r = reading r.at r.words
