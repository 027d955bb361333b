-- Building the graph (01, "Building the graph").
use Rattle.std.specs.Prelude.{Bool, false, cond, ◌&&◌, ◌||◌, ℕ, suc, max, eqb, ltb, length}
use mathlib.Core.List.{List, [], ◌∷◌, ◌++◌, map, flat_map, foldr}
use Rattle.semantics.specs.Arithmetic.{add_m, sub_m, mul_m, neg_m}
use Rattle.semantics.specs.Sheet.{Record, Interaction, Sheet, record_of}
use Rattle.semantics.specs.Value.{Node, leaf, const, add, sub, neg, mul, node_of, record_at}
use Rattle.semantics.specs.Walk.{order}

-- What a rule gives: a node that is there, or one to look for or append.
pub data Pick : Type 0 where
  present : ℕ → Pick
  make : Record → Pick

-- The two nodes are constants: what follows from their values; else the other.
unfoldable pub if_constants : {X : Type 0} → Node → Node → (ℕ → ℕ → X) → X → X
if_constants (const a) (const b) f x = f a b
if_constants (const a) (leaf v) f x = x
if_constants (const a) (add l r) f x = x
if_constants (const a) (sub l r) f x = x
if_constants (const a) (neg y) f x = x
if_constants (const a) (mul l r) f x = x
if_constants (leaf v) n f x = x
if_constants (add l r) n f x = x
if_constants (sub l r) n f x = x
if_constants (neg y) n f x = x
if_constants (mul l r) n f x = x

-- The node is the constant k (`is_const`).
unfoldable pub is_const : ℕ → Node → Bool
is_const k (const a) = eqb a k
is_const k (leaf v) = false
is_const k (add l r) = false
is_const k (sub l r) = false
is_const k (neg y) = false
is_const k (mul l r) = false

-- The node is Neg: what follows from its child (`get_neg_child`); else the other.
unfoldable pub if_neg : {X : Type 0} → Node → (ℕ → X) → X → X
if_neg (neg y) f x = f y
if_neg (const a) f x = x
if_neg (leaf v) f x = x
if_neg (add l r) f x = x
if_neg (sub l r) f x = x
if_neg (mul l r) f x = x

-- "Rules, first that applies": l and r are the children's node numbers, m and n their nodes, g the degree word of the source record,
-- which "the rewritten node keeps".
module _ (p : ℕ) where
  -- "both children constant: the folded constant; Add: left 0 gives right; right 0 gives left; right Neg y gives Sub(left, y)"
  unfoldable pub add_rule : (l r : ℕ) (m n : Node) (g : ℕ) → Pick
  add_rule l r m n g =
      if_constants m n (λ a b. make (record_of 5 (add_m p a b) 0 0 0))
      (cond (is_const 0 m) (present r)
      (cond (is_const 0 n) (present l)
      (if_neg n (λ y. make (record_of 7 l y g 0)) (make (record_of 6 l r g 0)))))

  -- "Sub: right 0 gives left; right Neg y gives Add(left, y)"
  unfoldable pub sub_rule : (l r : ℕ) (m n : Node) (g : ℕ) → Pick
  sub_rule l r m n g =
      if_constants m n (λ a b. make (record_of 5 (sub_m p a b) 0 0 0))
      (cond (is_const 0 n) (present l)
      (if_neg n (λ y. make (record_of 6 l y g 0)) (make (record_of 7 l r g 0))))

  -- "Neg: a constant folds"
  unfoldable pub neg_rule : (x : ℕ) (m : Node) (g : ℕ) → Pick
  neg_rule x m g = if_constants m m (λ a b. make (record_of 5 (neg_m p a) 0 0 0)) (make (record_of 8 x 0 g 0))

  -- "Mul: left 0 or right 1 gives left; right 0 or left 1 gives right"
  unfoldable pub mul_rule : (l r : ℕ) (m n : Node) (g : ℕ) → Pick
  mul_rule l r m n g =
      if_constants m n (λ a b. make (record_of 5 (mul_m p a b) 0 0 0))
      (cond (is_const 0 m || is_const 1 n) (present l)
      (cond (is_const 0 n || is_const 1 m) (present r) (make (record_of 9 l r g 0))))

-- "A node equal in all five words to an earlier one is that one; else it is appended."
unfoldable pub equal_records : Record → Record → Bool
equal_records r s = eqb r.kind s.kind && eqb r.a s.a && eqb r.b s.b && eqb r.c s.c && eqb r.d s.d

-- The number of the first node equal to r, or the number of nodes.
unfoldable pub find : Record → List Record → ℕ
find r [] = 0
find r (x ∷ xs) = cond (equal_records r x) 0 (suc (find r xs))

unfoldable pub intern : Record → List Record → List Record
intern r ns = cond (ltb (find r ns) (length ns)) ns (ns ++ (r ∷ []))

-- The nodes so far, and the node of each record that is added.
pub record Built : Type 0 where
  pub nodes : List Record
  pub num : ℕ → ℕ

unfoldable pub set_num : (i n : ℕ) → (ℕ → ℕ) → ℕ → ℕ
set_num i n num j = cond (eqb j i) n (num j)

unfoldable pub node_for : Built → ℕ → Node
node_for b i = node_of (record_at b.nodes (b.num i))

-- The rule for a record r, whose node is the last argument, on its built children; leaves go in as they are.
unfoldable pub pick : (p : ℕ) → Built → Record → Node → Pick
pick p b r (leaf x) = make r
pick p b r (const k) = make r
pick p b r (add x y) = add_rule p (b.num x) (b.num y) (node_for b x) (node_for b y) r.c
pick p b r (sub x y) = sub_rule p (b.num x) (b.num y) (node_for b x) (node_for b y) r.c
pick p b r (neg x) = neg_rule p (b.num x) (node_for b x) r.c
pick p b r (mul x y) = mul_rule p (b.num x) (b.num y) (node_for b x) (node_for b y) r.c

unfoldable pub take_in : Built → ℕ → Pick → Built
take_in b i (present n) = record { nodes = b.nodes; num = set_num i n b.num }
take_in b i (make r) = record { nodes = intern r b.nodes; num = set_num i (find r b.nodes) b.num }

-- `add_expr` for a record whose children are added, and so for all records of an order, newest first.
module _ (p : ℕ) (rs : List Record) where
  unfoldable pub add_record : Built → ℕ → Built
  add_record b i = take_in b i (pick p b (record_at rs i) (node_of (record_at rs i)))

  unfoldable pub build : List ℕ → Built
  build [] = record { nodes = []; num = λ i. 0 }
  build (i ∷ done) = add_record (build done) i

-- "Constraints go in first; then each interaction's fields, then its count."
unfoldable pub graph_roots : Sheet → List ℕ
graph_roots s = s.constraints ++ flat_map (λ (x : Interaction). x.message ++ (x.count ∷ [])) s.interactions

unfoldable pub built : (p : ℕ) → Sheet → Built
built p s = build p s.records (order s.records (graph_roots s))

-- "The node numbers of the constraints are then sorted and repeats dropped."
unfoldable pub insert_once : ℕ → List ℕ → List ℕ
insert_once n [] = n ∷ []
insert_once n (x ∷ xs) = cond (ltb n x) (n ∷ x ∷ xs) (cond (ltb x n) (x ∷ insert_once n xs) (x ∷ xs))

unfoldable pub sorted_once : List ℕ → List ℕ
sorted_once [] = []
sorted_once (n ∷ ns) = insert_once n (sorted_once ns)

unfoldable pub renamed : (ℕ → ℕ) → Interaction → Interaction
renamed num x = record { bus = x.bus; weight = x.weight; count = num x.count; message = map num x.message }

-- "The graph is again a sheet of form 1, nodes as records."
unfoldable pub graph_of : (p : ℕ) → Sheet → Sheet
graph_of p s = record {
  records = (built p s).nodes;
  constraints = sorted_once (map (built p s).num s.constraints);
  interactions = map (renamed (built p s).num) s.interactions;
}

-- "`max_rotation` is the largest offset over all variable nodes, used or unused, 0 if none."
unfoldable pub rotation : Record → ℕ
rotation r = cond (eqb r.kind 1) r.c 0

unfoldable pub max_rotation : Sheet → ℕ
max_rotation s = foldr (λ (r : Record) (n : ℕ). max (rotation r) n) 0 s.records
