-- The walk of an expansion, and where it refuses (01: "8 to 13, 16", "for reached records only").
use Rattle.std.specs.Prelude.{Bool, false, cond, ◌||◌, List, [], ◌∷◌, ℕ, ◌+◌, ◌*◌, eqb, leb, ltb, length}
use Rattle.semantics.specs.Answer.{Answer, good, refused, and_then}
use Rattle.semantics.specs.Sheet.{Record}
use Rattle.semantics.specs.Packing.{pack_fault}
use Rattle.semantics.specs.Value.{node_of, record_at}
use Rattle.semantics.specs.Monomial.{Monomial, working, list_at}

-- Some monomial has more than n variables.
unfoldable pub longer : (n : ℕ) → List Monomial → Bool
longer n [] = false
longer n (m ∷ ms) = ltb n (length m.vars) || longer n ms

-- "12: a working list above 256", "13: a product of more than 14 variables"; "12 and 13 look at the working list before combining".
unfoldable pub work_fault : List Monomial → ℕ
work_fault ms = cond (ltb 256 (length ms)) 12 (cond (longer 14 ms) 13 0)

-- "each list: 2 words a monomial and one a variable"
unfoldable pub list_size : List Monomial → ℕ
list_size [] = 0
list_size (m ∷ ms) = 2 + length m.vars + list_size ms

module _ (p : ℕ) (rs : List Record) where
  -- Why record i is refused, whatever the pool: 8 to 13, "the lower number wins", or 0.
  unfoldable pub record_fault : ℕ → ℕ
  record_fault i =
      let pf : ℕ = pack_fault (record_at rs i) in
      cond (eqb pf 0) (work_fault (working p (record_at rs i) (node_of (record_at rs i)) (list_at p rs))) pf

  -- "16: the pool can't take a record's list": record i is expanded where `used` words of the pool are taken.
  unfoldable pub expand_record : (pool : ℕ) → ℕ → (used : ℕ) → Answer ℕ
  expand_record pool i used =
      cond (eqb (record_fault i) 0)
      (cond (leb (used + list_size (list_at p rs i)) pool) (good (used + list_size (list_at p rs i))) (refused 16 i))
      (refused (record_fault i) i)

  -- "The pool holds 2 words per record .., then each list": the words taken after an order of records, newest first.
  unfoldable pub expand_all : (pool : ℕ) → List ℕ → Answer ℕ
  expand_all pool [] = good (2 * length rs)
  expand_all pool (i ∷ done) = and_then (expand_all pool done) (expand_record pool i)
