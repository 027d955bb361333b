-- The order in which a walk reaches records (01: "left child, right child, then itself", "Children come left first").
use Rattle.std.specs.Prelude.{◌≡◌, Bool, true, false, cond, List, [], ◌∷◌, ℕ, zero, suc, ◌<◌, eqb, length}
use Rattle.semantics.specs.Sheet.{Record}
use Rattle.semantics.specs.Value.{Node, leaf, const, add, sub, neg, mul, node_of, record_at}

unfoldable pub children : Node → List ℕ
children (leaf x) = []
children (const k) = []
children (add l r) = l ∷ r ∷ []
children (sub l r) = l ∷ r ∷ []
children (neg x) = x ∷ []
children (mul l r) = l ∷ r ∷ []

unfoldable pub children_at : List Record → ℕ → List ℕ
children_at rs i = children (node_of (record_at rs i))

unfoldable pub member : ℕ → List ℕ → Bool
member x [] = false
member x (y ∷ ys) = cond (eqb x y) true (member x ys)

-- That a list has a number; that all its numbers are below n.
abbrev pub Mem : ℕ → List ℕ → Type 0
Mem x s = member x s ≡ true

abbrev pub Below : ℕ → List ℕ → Type 0
Below n s = (x : ℕ) → Mem x s → x < n

-- From the first of a list to its last.
unfoldable pub fold_left : {S : Type 0} → (S → ℕ → S) → S → List ℕ → S
fold_left f s [] = s
fold_left f s (x ∷ xs) = fold_left f (f s x) xs

-- What is reached after `seen`, newest first: a record that was seen stays where it is; another comes after its children.
-- The first argument is a number above the record's own, for the children's numbers fall.
module _ (ch : ℕ → List ℕ) where
  unfoldable pub visit : ℕ → List ℕ → ℕ → List ℕ
  visit zero seen r = seen
  visit (suc n) seen r = let after : List ℕ = r ∷ fold_left (visit n) seen (ch r) in cond (member r seen) seen after

-- The records that some roots reach, each once, newest first.
unfoldable pub order : List Record → (roots : List ℕ) → List ℕ
order rs roots = fold_left (visit (children_at rs) (length rs)) [] roots

-- Every member's children stand behind it.
module _ (ch : ℕ → List ℕ) where
  abbrev pub Closed : List ℕ → Type 0
  Closed [] = Unit {0}
  Closed (x ∷ s) = ((c : ℕ) → Mem c (ch x) → Mem c s) × Closed s

-- "named by a constraint or interaction .., or through children of one"
pub data Reaches (ch : ℕ → List ℕ) : ℕ → ℕ → Type 0 where
  itself : {r : ℕ} → Reaches ch r r
  through : {r c x : ℕ} → member c (ch r) ≡ true → Reaches ch c x → Reaches ch r x

-- Each once.
abbrev pub Distinct : List ℕ → Type 0
Distinct [] = Unit {0}
Distinct (x ∷ s) = (member x s ≡ false) × Distinct s
