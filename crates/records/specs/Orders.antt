-- The order in which a walk has reached records of a sheet, newest first.
use Rattle.std.specs.Prelude.{◌≡◌, true, false, List, ◌∷◌, ℕ, suc, length}
use Rattle.semantics.specs.Walk.{Below, Closed, children_at, member, fold_left, visit, Distinct}
use Rattle.records.specs.Access.{records_of}

-- An order so far: children before parents, each once, records of the sheet.
pub record Order (ws done : List ℕ) : Type 0 where
  pub closed : Closed (children_at (records_of ws)) done
  pub distinct : Distinct done
  pub below : Below (length (records_of ws)) done

-- The children of a record are reached.
abbrev pub There : (ws : List ℕ) (r : ℕ) (done : List ℕ) → Type 0
There ws r done = (c : ℕ) → member c (children_at (records_of ws) r) ≡ true → member c done ≡ true

-- What holds of an order before these roots are visited, and what holds of it then.
abbrev pub Visiting : (ws roots : List ℕ) (before after : List ℕ → Type 0) → Type 0
Visiting ws roots before after =
    (done : List ℕ) → Order ws done → before done → after (fold_left (visit (children_at (records_of ws)) (length (records_of ws))) done roots)

-- The same for record r and what it reaches; and for record r alone, which is not reached yet and whose children are.
abbrev pub Visits : (ws : List ℕ) (r : ℕ) (before after : List ℕ → Type 0) → Type 0
Visits ws r before after = (done : List ℕ) → Order ws done → before done → after (visit (children_at (records_of ws)) (suc r) done r)

abbrev pub Finishes : (ws : List ℕ) (r : ℕ) (before after : List ℕ → Type 0) → Type 0
Finishes ws r before after = (done : List ℕ) → Order ws done → member r done ≡ false → There ws r done → before done → after (r ∷ done)
