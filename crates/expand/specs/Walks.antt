-- What a walk asks and changes.
use Rattle.std.specs.Prelude.{◌≡◌, false, List, ℕ, ◌<◌, length, Result}
use Rattle.semantics.specs.Walk.{member}
use Rattle.answers.specs.declared.Refusal.{Refusal}
use Rattle.records.specs.Access.{records_of}
use Rattle.records.specs.Orders.{Order, There, Visiting, Visits, Finishes}
use Rattle.expand.specs.declared.Walk.{Walk}
use Rattle.expand.specs.Walking.{PoolHolds, Expands}

-- The records done are expanded; and what an answer says of them.
abbrev pub Holds : Walk → (done : List ℕ) → Type 0
Holds w done = PoolHolds w.sheet.words.now done w.pool.now w.used

abbrev pub Answers : Walk → Result (Unit {0}) Refusal → (done : List ℕ) → Type 0
Answers w u done = Expands w.sheet.words.now w.pool.now w.used u done

-- A walk over these words, from a pool of which so many words are taken.
pub record Starts (ws pool : List ℕ) (used : ℕ) (w : Walk) : Type 0 where
  pub sheet_is : w.sheet.words.now ≡ ws
  pub pool_is : w.pool.now ≡ pool
  pub used_is : w.used ≡ used

-- It goes on over the same sheet, in the same two slices.
pub record Same (v w : Walk) : Type 0 where
  pub sheet : w.sheet.words.now ≡ v.sheet.words.now
  pub work : w.work.ghost_name ≡ v.work.ghost_name
  pub pool : w.pool.ghost_name ≡ v.pool.ghost_name

-- What expanding asks: some records are expanded.
pub record ExpandWalking (w : Walk) : Type 0 where
  pub done : List ℕ
  pub order : Order w.sheet.words.now done
  pub holds : Holds w done

-- The same for a record, and for one whose children are expanded.
pub record ExpandReady (w : Walk) (r : ℕ) : Type 0 where
  pub walking : ExpandWalking w
  pub inside : r < length (records_of w.sheet.words.now)

pub record Finishing (w : Walk) (r : ℕ) : Type 0 where
  pub ready : ExpandReady w r
  pub new : member r ready.walking.done ≡ false
  pub there : There w.sheet.words.now r ready.walking.done

-- The walk goes from the one to the other, with this answer, as record r is expanded, whose children are; as it is expanded with all that it reaches;
-- and as these records are.
abbrev pub Finished : (v : Walk) (r : ℕ) (w : Walk) → Result (Unit {0}) Refusal → Type 0
Finished v r w u = Same v w × Finishes v.sheet.words.now r (Holds v) (Answers w u)

abbrev pub Visited : (v : Walk) (r : ℕ) (w : Walk) → Result (Unit {0}) Refusal → Type 0
Visited v r w u = Same v w × Visits v.sheet.words.now r (Holds v) (Answers w u)

abbrev pub Walked : (v : Walk) (roots : List ℕ) (w : Walk) → Result (Unit {0}) Refusal → Type 0
Walked v roots w u = Same v w × Visiting v.sheet.words.now roots (Holds v) (Answers w u)
