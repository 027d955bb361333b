-- What a record is, and its words (01, "The sheet").
use Rattle.std.specs.Prelude.{◌≡◌, ℕ}
use Rattle.semantics.specs.Sheet as semantics
use Rattle.semantics.specs.Sheet.{record_of}
use Rattle.semantics.specs.Value as value
use Rattle.semantics.specs.Value.{leaf, const, add, sub, neg, mul, leaf_of}
use Rattle.records.specs.declared.Record.{Record}
use Rattle.records.specs.declared.Node.{Node}
use Rattle.records.specs.declared.Node.TheVariants.{Leaf, Constant, Add, Sub, Neg, Mul}
use Rattle.records.specs.Access.{five_words}

-- A node as 01 has it.
abbrev pub shown_node : Node → value.Node
shown_node (Leaf r) = leaf (leaf_of (five_words r))
shown_node (Constant k) = const k
shown_node (Add l r) = add l r
shown_node (Sub l r) = sub l r
shown_node (Neg x) = neg x
shown_node (Mul l r) = mul l r

-- The words of a record that is this node: a leaf's own, and else the kind, the value or the children, and the degree of a node with children.
abbrev pub record_with : Node → (degree : ℕ) → semantics.Record
record_with (Leaf r) degree = five_words r
record_with (Constant k) degree = record_of 5 k 0 0 0
record_with (Add l r) degree = record_of 6 l r degree 0
record_with (Sub l r) degree = record_of 7 l r degree 0
record_with (Neg x) degree = record_of 8 x 0 degree 0
record_with (Mul l r) degree = record_of 9 l r degree 0

-- These words as a record.
abbrev pub as_record : semantics.Record → Record
as_record q = record { kind = q.kind; a = q.a; b = q.b; c = q.c; d = q.d }

-- A leaf carries this record.
abbrev pub CarriesLeaf : Node → Record → Type 0
CarriesLeaf (Leaf q) r = q ≡ r
CarriesLeaf (Constant k) r = Unit {0}
CarriesLeaf (Add x y) r = Unit {0}
CarriesLeaf (Sub x y) r = Unit {0}
CarriesLeaf (Neg x) r = Unit {0}
CarriesLeaf (Mul x y) r = Unit {0}
