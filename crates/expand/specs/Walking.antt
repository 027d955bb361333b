-- What the pool holds while an expansion walks, for the records expanded so far, and what making and storing one more list asks and changes.
use Rattle.std.specs.Prelude.{◌≡◌, true, false, List, ◌++◌, ℕ, ◌+◌, ◌*◌, ◌≤◌, ◌<◌, length, get_or, set, take, drop, Result, Ok, Err}
use Rattle.semantics.specs.Answer.{good, refused}
use Rattle.semantics.specs.Check.{prime_of}
use Rattle.semantics.specs.Walk.{Mem, children_at, member}
use Rattle.semantics.specs.Monomial.{Monomial, list_at}
use Rattle.semantics.specs.Expand.{list_size, expand_all}
use Rattle.answers.specs.declared.Reason.TheVariants.{PoolTooShort}
use Rattle.answers.specs.declared.Refusal.{Refusal}
use Rattle.answers.specs.Replies.{number_of}
use Rattle.records.specs.Access.{records_of}
use Rattle.monomial.specs.Words.{list_words, FitsList, Stored}

-- The walk accepted the records `done`, newest first, and `used` words of the pool are taken: a record that is not among them has
-- 0 for its start, and one that is has its list, behind the two words of each record and before what is free. A list takes at most sixteen
-- words for each of 256 monomials.
pub record PoolHolds (ws done pool : List ℕ) (used : ℕ) : Type 0 where
  pub used_is : expand_all (prime_of ws) (records_of ws) (length pool) done ≡ good used
  pub low : 2 * length (records_of ws) ≤ used
  pub high : used ≤ length pool
  pub small : used ≤ 2 * length (records_of ws) + 4096 * length done
  pub new : (i : ℕ) → i < length (records_of ws) → member i done ≡ false → get_or pool (2 * i) 0 ≡ 0
  pub old : (i : ℕ) → member i done ≡ true → Stored pool i (list_at (prime_of ws) (records_of ws) i)
  pub behind : (i : ℕ) → member i done ≡ true → 2 * length (records_of ws) ≤ get_or pool (2 * i) 0
  pub before : (i : ℕ) → member i done ≡ true → get_or pool (2 * i) 0 + list_size (list_at (prime_of ws) (records_of ws) i) ≤ used

-- What an answer says of the records that were to be expanded: the pool, of which `used` words are taken, holds them, or the refusal.
abbrev pub Expands : (ws pool : List ℕ) (used : ℕ) → Result (Unit {0}) Refusal → (done : List ℕ) → Type 0
Expands ws pool used (Ok u) done = PoolHolds ws done pool used
Expands ws pool used (Err q) done = expand_all (prime_of ws) (records_of ws) (length pool) done ≡ refused (number_of q.reason) q.place

-- What making a record's list asks: a record of the sheet, and its children's lists in the pool.
pub record ChildrenStored (ws : List ℕ) (r : ℕ) (pool : List ℕ) : Type 0 where
  pub inside : r < length (records_of ws)
  pub stored : (c : ℕ) → Mem c (children_at (records_of ws) r) → Stored pool c (list_at (prime_of ws) (records_of ws) c)

-- The pool with a list stored for record r: its words behind those that are taken, and its place in the record's two words.
abbrev pub with_list : (pool : List ℕ) (r used : ℕ) → List Monomial → List ℕ
with_list pool r used l = set (set (take used pool ++ (list_words l ++ drop (used + list_size l) pool)) (2 * r) used) (2 * r + 1) (length l)

-- What storing comes to: the list, one that a walk may hold, is stored, or there is no room for it.
abbrev pub Stores : (pool pool' : List ℕ) (r used : ℕ) → List Monomial → Result ℕ Refusal → Type 0
Stores pool pool' r used l (Ok u) = (u ≡ used + list_size l) × (u ≤ length pool) × (pool' ≡ with_list pool r used l) × FitsList l
Stores pool pool' r used l (Err q) = (q.reason ≡ PoolTooShort) × (q.place ≡ r) × (length pool < used + list_size l)

-- What storing asks: room for the record's two words, and words that are taken before what is free.
pub record Storing (pool : List ℕ) (r used : ℕ) : Type 0 where
  pub head : 2 * r + 2 ≤ used
  pub high : used ≤ length pool
  pub small : used < 4294967296
