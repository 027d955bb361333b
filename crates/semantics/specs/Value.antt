-- What a record is, and its value under an assignment (01, "For demand 3").
use Rattle.std.specs.Prelude.{cond, List, [], ◌∷◌, ◌++◌, ℕ, eqb, get_or}
use Rattle.semantics.specs.Arithmetic.{add_m, sub_m, mul_m, neg_m}
use Rattle.semantics.specs.Sheet.{Record, record_of}

-- "a variable (its entry, part, offset, column) or row mark"
pub data Leaf : Type 0 where
  variable : ℕ → ℕ → ℕ → ℕ → Leaf
  is_first_row : Leaf
  is_last_row : Leaf
  is_transition : Leaf

-- The nine kinds, with the numbers of the children; `SymbolicExpressionNode` without the degree word.
pub data Node : Type 0 where
  leaf : Leaf → Node
  const : ℕ → Node
  add : ℕ → ℕ → Node
  sub : ℕ → ℕ → Node
  neg : ℕ → Node
  mul : ℕ → ℕ → Node

unfoldable pub leaf_of : Record → Leaf
leaf_of r =
    cond (eqb r.kind 1) (variable r.a r.b r.c r.d)
    (cond (eqb r.kind 2) is_first_row (cond (eqb r.kind 3) is_last_row is_transition))

unfoldable pub node_of : Record → Node
node_of r =
    cond (eqb r.kind 5) (const r.a)
    (cond (eqb r.kind 6) (add r.a r.b)
    (cond (eqb r.kind 7) (sub r.a r.b)
    (cond (eqb r.kind 8) (neg r.a)
    (cond (eqb r.kind 9) (mul r.a r.b) (leaf (leaf_of r))))))

-- What a place past the end of the records reads as.
abbrev pub no_record : Record
no_record = record_of 0 0 0 0 0

unfoldable pub record_at : List Record → ℕ → Record
record_at rs i = get_or rs i no_record

-- A pass over the records in ascending number: `step` sees what was made of the earlier ones, and `d` elsewhere.
module _ {R X : Type 0} (step : R → (ℕ → X) → X) (d : X) where
  unfoldable pub fill : List X → List R → List X
  fill done [] = done
  fill done (r ∷ rs) = fill (done ++ (step r (λ i. get_or done i d) ∷ [])) rs

-- "under A a variable .. or row mark, packed or not, has A's value, a constant its own; Add, Sub, Mul and Neg act on their children's"
module _ (p : ℕ) (A : Leaf → ℕ) where
  unfoldable pub node_value : Node → (ℕ → ℕ) → ℕ
  node_value (leaf x) f = A x
  node_value (const k) f = k
  node_value (add l r) f = add_m p (f l) (f r)
  node_value (sub l r) f = sub_m p (f l) (f r)
  node_value (neg x) f = neg_m p (f x)
  node_value (mul l r) f = mul_m p (f l) (f r)

  unfoldable pub record_value : Record → (ℕ → ℕ) → ℕ
  record_value r f = node_value (node_of r) f

  -- The values of all records, and of record i.
  unfoldable pub values : List Record → List ℕ
  values rs = fill record_value 0 [] rs

  unfoldable pub value_at : List Record → ℕ → ℕ
  value_at rs i = get_or (values rs) i 0
