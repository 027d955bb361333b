-- What scratch and output hold while the graph is built, as a function of the records added so far.
use Rattle.std.specs.Prelude.{◌≡◌, cond, ℕ, zero, suc, length}
use mathlib.Core.List.{List, [], ◌∷◌, ◌++◌, flat_map}
use Rattle.semantics.specs.Sheet.{Record, record_words}
use Rattle.semantics.specs.Check.{prime_of}
use Rattle.semantics.specs.Walk.{member}
use Rattle.semantics.specs.Graph.{Built, build}
use Rattle.semantics.specs.Call.{zeros, padded}
use Rattle.records.specs.Access.{records_of}

-- f k, f (k + 1), .., n of them.
unfoldable pub tabulate : (k n : ℕ) → (ℕ → ℕ) → List ℕ
tabulate k zero f = []
tabulate k (suc n) f = f k ∷ tabulate (suc k) n f

-- Scratch: each record's node, counted from 1; 0 for a record that is not added.
unfoldable pub mark : List ℕ → Built → ℕ → ℕ
mark done b i = cond (member i done) (suc (b.num i)) 0

-- Output: four words for the head, the nodes, and zeros.
unfoldable pub nodes_out : (lent : ℕ) → List Record → List ℕ
nodes_out lent ns = padded (zeros 4 ++ flat_map record_words ns) lent

-- The builder's state when `done` are added, newest first.
unfoldable pub built_of : List ℕ → List ℕ → Built
built_of ws done = build (prime_of ws) (records_of ws) done

pub record GraphHolds (ws done scratch out : List ℕ) (n : ℕ) : Type 0 where
  pub scratch_is : scratch ≡ tabulate 0 (length (records_of ws)) (mark done (built_of ws done))
  pub out_is : out ≡ nodes_out (length out) (built_of ws done).nodes
  pub count_is : n ≡ length (built_of ws done).nodes
