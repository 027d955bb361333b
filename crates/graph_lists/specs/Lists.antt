-- The lists of the finished graph, from what scratch and output hold when all records are added.
use Rattle.std.specs.Prelude.{Bool, true, false, cond, List, [], ◌∷◌, ◌++◌, map, ℕ, zero, suc, pred, ◌+◌, ◌-◌, ◌≤◌, ◌<◌, leb, ltb, length, get_or}
use mathlib.Core.List.{flat_map}
use Rattle.semantics.specs.Sheet.{Interaction, interaction_words, encode, length_of}
use Rattle.semantics.specs.Check.{prime_of, read_sheet}
use Rattle.semantics.specs.Walk.{Mem, member, order}
use Rattle.semantics.specs.Graph.{graph_roots, renamed, graph_of}
use Rattle.semantics.specs.Call.{padded}
use Rattle.records.specs.Access.{records_of}
use Rattle.nodes.specs.Memory.{GraphHolds}

-- The nodes of the constraints are flagged in scratch by 65,536 while they are put into ascending order.
unfoldable pub flagged : (ℕ → ℕ) → List ℕ → ℕ → ℕ
flagged f nums i = f i + cond (member i nums) 65536 0

unfoldable pub flag_word : ℕ → ℕ
flag_word w = cond (leb 65536 w) w (w + 65536)

-- The nodes of records, from marks that count from 1.
abbrev pub node_numbers : (ℕ → ℕ) → List ℕ → List ℕ
node_numbers f xs = map (λ (x : ℕ). pred (f x)) xs

abbrev pub marks_of : List ℕ → ℕ → ℕ
marks_of scratch i = get_or scratch i 0

-- What turning names of records into node numbers asks: marks below the flag, names of records that have a mark.
pub record NodesNamed (names scratch : List ℕ) : Type 0 where
  pub small : (i : ℕ) → i < length scratch → marks_of scratch i < 65536
  pub named : (c : ℕ) → Mem c names → (c < length scratch) × (0 < marks_of scratch c) × (marks_of scratch c ≤ length scratch)

-- A word without its flag, and scratch with the flags of the first entries taken off.
unfoldable pub plain_word : ℕ → ℕ
plain_word w = cond (leb 65536 w) (w - 65536) w

unfoldable pub plain_below : (n : ℕ) → List ℕ → ℕ → ℕ
plain_below n scratch i = cond (ltb i n) (plain_word (marks_of scratch i)) (marks_of scratch i)

-- A number, where it is wanted.
abbrev pub one_if : Bool → ℕ → List ℕ
one_if true x = x ∷ []
one_if false x = []

-- The flagged entries among k, k + 1, .., n of them.
unfoldable pub flagged_among : (k n : ℕ) → List ℕ → List ℕ
flagged_among k zero scratch = []
flagged_among k (suc n) scratch = one_if (leb 65536 (marks_of scratch k)) k ++ flagged_among (suc k) n scratch

-- The words of an interaction whose references are turned into nodes, and of several.
abbrev pub renamed_words : (scratch : List ℕ) → Interaction → List ℕ
renamed_words scratch x = interaction_words (renamed (λ c. pred (marks_of scratch c)) x)

abbrev pub renamed_all : (scratch : List ℕ) → List Interaction → List ℕ
renamed_all scratch xs = flat_map (renamed_words scratch) xs

-- All records that the sheet names are added.
abbrev pub all_added : List ℕ → List ℕ
all_added ws = order (records_of ws) (graph_roots (read_sheet ws))

pub record ToWriteLists (ws scratch out : List ℕ) (n : ℕ) : Type 0 where
  pub room : length_of (read_sheet ws) ≤ length out
  pub holds : GraphHolds ws (all_added ws) scratch out n

-- The graph in the output.
abbrev pub graph_out : (lent : ℕ) → List ℕ → List ℕ
graph_out lent ws = padded (encode (graph_of (prime_of ws) (read_sheet ws))) lent

abbrev pub graph_length : List ℕ → ℕ
graph_length ws = length (encode (graph_of (prime_of ws) (read_sheet ws)))
