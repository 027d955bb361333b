-- Monomials, and the list of each record (01, "Packing and expanding").
use Rattle.std.specs.Prelude.{◌≡◌, Bool, true, false, cond, List, [], ◌∷◌, ◌++◌, map, ℕ, eqb, ltb, length, get_or}
use Rattle.semantics.specs.Arithmetic.{add_m, mul_m, neg_m}
use Rattle.semantics.specs.Lists.{AscendBy}
use Rattle.semantics.specs.Sheet.{Record}
use Rattle.semantics.specs.Packing.{packed}
use Rattle.semantics.specs.Value.{Node, leaf, const, add, sub, neg, mul, node_of, fill}

-- A product of packed variables, and its coefficient.
pub record Monomial : Type 0 where
  pub vars : List ℕ
  pub coef : ℕ

-- Number by number.
unfoldable pub before : List ℕ → List ℕ → Bool
before [] [] = false
before [] (y ∷ ys) = true
before (x ∷ xs) [] = false
before (x ∷ xs) (y ∷ ys) = cond (ltb x y) true (cond (ltb y x) false (before xs ys))

-- The order of variable lists: by length, then number by number.
unfoldable pub before_vars : List ℕ → List ℕ → Bool
before_vars xs ys = before (length xs ∷ xs) (length ys ∷ ys)

abbrev pub BeforeVars : List ℕ → List ℕ → Type 0
BeforeVars u v = before_vars u v ≡ true

-- A list strictly ascends.
abbrev pub Asc : List Monomial → Type 0
Asc ms = AscendBy BeforeVars (λ (m : Monomial). m.vars) ms

-- A list sorted; `after x y` says that x comes after y.
module _ {X : Type 0} (after : X → X → Bool) where
  unfoldable pub insert_sorted : X → List X → List X
  insert_sorted x [] = x ∷ []
  insert_sorted x (y ∷ ys) = cond (after x y) (y ∷ insert_sorted x ys) (x ∷ y ∷ ys)

  unfoldable pub sort : List X → List X
  sort [] = []
  sort (x ∷ xs) = insert_sorted x (sort xs)

unfoldable pub above : ℕ → ℕ → Bool
above x y = ltb y x

-- In front of a list, unless the coefficient is 0.
unfoldable pub keep : Monomial → List Monomial → List Monomial
keep m ms = cond (eqb m.coef 0) ms (m ∷ ms)

module _ (p : ℕ) where
  unfoldable pub neg_monomial : Monomial → Monomial
  neg_monomial m = record { vars = m.vars; coef = neg_m p m.coef }

  -- "every left monomial times every right one, variables sorted by number"
  unfoldable pub mul_monomial : Monomial → Monomial → Monomial
  mul_monomial m n = record { vars = sort above (m.vars ++ n.vars); coef = mul_m p m.coef n.coef }

  unfoldable pub products : List Monomial → List Monomial → List Monomial
  products [] ys = []
  products (x ∷ xs) ys = map (mul_monomial x) ys ++ products xs ys

  unfoldable pub plus : Monomial → Monomial → Monomial
  plus m n = record { vars = n.vars; coef = add_m p m.coef n.coef }

  -- "equal variable lists are summed and zero sums dropped"; the lists ascend by length, then number by number, an order that 01 leaves open.
  unfoldable pub insert_monomial : Monomial → List Monomial → List Monomial
  insert_monomial m [] = keep m []
  insert_monomial m (x ∷ xs) =
      cond (before_vars m.vars x.vars) (keep m (x ∷ xs))
      (cond (before_vars x.vars m.vars) (x ∷ insert_monomial m xs) (keep (plus m x) xs))

  unfoldable pub combine : List Monomial → List Monomial
  combine [] = []
  combine (m ∷ ms) = insert_monomial m (combine ms)

  -- "leaf: one monomial, a constant 0 included"; "Add, Sub: working list is both children's lists, right negated for Sub"; "Mul: every left
  -- monomial times every right one, variables sorted by number"; "Neg: the child's list negated": of a record, its node, and the children's lists.
  unfoldable pub working : Record → Node → (ℕ → List Monomial) → List Monomial
  working r (leaf x) f = record { vars = packed r ∷ []; coef = 1 } ∷ []
  working r (const k) f = record { vars = []; coef = k } ∷ []
  working r (add x y) f = f x ++ f y
  working r (sub x y) f = f x ++ map neg_monomial (f y)
  working r (neg x) f = map neg_monomial (f x)
  working r (mul x y) f = products (f x) (f y)

  -- "Then, except for leaves and Neg, equal variable lists are summed and zero sums dropped."
  unfoldable pub finished : Node → List Monomial → List Monomial
  finished (leaf x) ms = ms
  finished (const k) ms = ms
  finished (add x y) ms = combine ms
  finished (sub x y) ms = combine ms
  finished (neg x) ms = ms
  finished (mul x y) ms = combine ms

  unfoldable pub record_list : Record → (ℕ → List Monomial) → List Monomial
  record_list r f = finished (node_of r) (working r (node_of r) f)

  -- The finished lists of all records, and of record i.
  unfoldable pub lists : List Record → List (List Monomial)
  lists rs = fill record_list [] [] rs

  unfoldable pub list_at : List Record → ℕ → List Monomial
  list_at rs i = get_or (lists rs) i []
