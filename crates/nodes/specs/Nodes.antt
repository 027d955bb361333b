-- The nodes in the output.
use Rattle.std.specs.Prelude.{◌≡◌, false, true, List, [], ◌∷◌, ℕ, suc, ◌≤◌, ◌<◌, max, length}
use Rattle.semantics.specs.Sheet.{Record}
use Rattle.semantics.specs.Value.{record_at}
use Rattle.semantics.specs.Graph.{equal_records, find, intern}
use Rattle.records.specs.Access.{node_in}
use Rattle.nodes.specs.declared.Interned.{Interned}
use Rattle.nodes.specs.Memory.{nodes_out}

-- No node below `from` is equal to q.
abbrev pub NoneBefore : (from : ℕ) → Record → List Record → Type 0
NoneBefore from q ns = (i : ℕ) → i < from → equal_records q (record_at ns i) ≡ false

-- One above the largest of some numbers, 0 where there is none: a node stands above all its children.
unfoldable pub above_all : List ℕ → ℕ
above_all [] = 0
above_all (c ∷ cs) = max (suc c) (above_all cs)

-- x is the first node from `from` on, of n, that is equal to q, or n.
pub record FirstEqual (ws : List ℕ) (n from : ℕ) (q : Record) (x : ℕ) : Type 0 where
  pub above : from ≤ x
  pub inside : x ≤ n
  pub skipped : (i : ℕ) → from ≤ i → i < x → equal_records q (node_in ws i) ≡ false
  pub found : x < n → equal_records q (node_in ws x) ≡ true

-- Whatever n nodes stand in the output, of which none below `from` is equal to q: x says which node q is, and how many there are then; q is
-- appended where there was none.
abbrev pub Interns : (out : List ℕ) (n from : ℕ) → Record → Interned → (out' : List ℕ) → Type 0
Interns out n from q x out' =
    (ns : List Record) → out ≡ nodes_out (length out) ns → n ≡ length ns → NoneBefore from q ns
    → (x.index ≡ find q ns) × (out' ≡ nodes_out (length out) (intern q ns)) × (x.count ≡ length (intern q ns))
