-- The lists of the constraints, or why there are none (01, "What each call hands back"); and what the interactions' lists take too.
use Rattle.std.specs.Prelude.{◌≡◌, List, [], ◌∷◌, ◌++◌, ℕ, ◌+◌, ◌-◌, ◌*◌, ◌≤◌, length, take, replicate, Result, Ok, Err, IfOk}
use Rattle.std.specs.Borrow.{MutBor}
use denote.Triple.Both.{Both}
use Rattle.slices.specs.Lent.{old, new}
use Rattle.semantics.specs.Answer.{Answer, refused, and_then}
use Rattle.semantics.specs.Sheet.{Sheet}
use Rattle.semantics.specs.Check.{prime_of, read_sheet}
use Rattle.semantics.specs.Group.{Item, Group}
use Rattle.semantics.specs.Call.{Result as Made, zeros, needs, result, on_sheet}
use Rattle.answers.specs.declared.Refusal.{Refusal}
use Rattle.answers.specs.declared.Reason.TheVariants.{SliceTooShort}
use Rattle.answers.specs.Replies.{number_of, answer_of}
use Rattle.grouping.specs.declared.Lengths.{Lengths}
use Rattle.grouping.specs.declared.Short.{Short}
use Rattle.grouping.specs.Families.{short_number, Laid}
use Rattle.constraint_lists.specs.declared.Outputs.{Outputs}
use Rattle.constraint_lists.specs.declared.Scratch.{Scratch}

-- Three outputs lent to a call, as its contract sees them (`old`, `new`); and the scratch.
abbrev pub LentOutputs : Type 0
LentOutputs = Both (MutBor Outputs) (MutBor Outputs)

abbrev pub LentScratch : Type 0
LentScratch = Both (MutBor Scratch) (MutBor Scratch)

-- The lengths of three outputs; their first words, so many of each; and that there are as many.
abbrev pub lengths_of : Outputs → List ℕ
lengths_of o = length o.headers.now ∷ length o.variables.now ∷ length o.terms.now ∷ []

abbrev pub words_of : Lengths → Outputs → List (List ℕ)
words_of n o = take n.headers o.headers.now ∷ take n.variables o.variables.now ∷ take n.terms o.terms.now ∷ []

abbrev pub Fit : Lengths → Outputs → Type 0
Fit n o = (n.headers ≤ length o.headers.now) × (n.variables ≤ length o.variables.now) × (n.terms ≤ length o.terms.now)

-- A call leaves the same three slices in place, each of the length that it had.
pub record SameSlices (before after : Outputs) : Type 0 where
  pub headers : after.headers.ghost_name ≡ before.headers.ghost_name
  pub variables : after.variables.ghost_name ≡ before.variables.ghost_name
  pub terms : after.terms.ghost_name ≡ before.terms.ghost_name
  pub lengths : lengths_of after ≡ lengths_of before

-- 17 for a slice that is too short; the slices are counted from `first`.
abbrev pub short_of : Short → (first : ℕ) → Refusal
short_of short first = record { reason = SliceTooShort; place = first + short_number short }

-- The lists of a family stand in the outputs, or the first slice that is too short is refused.
abbrev pub GroupedAs : (first : ℕ) (term : Item → List ℕ) → List Group → Outputs → Result Lengths Refusal → Type 0
GroupedAs first term gs o (Ok n) = Laid term gs o.headers.now o.variables.now o.terms.now (Ok n)
GroupedAs first term gs o (Err r) =
    (short : Short) × (Laid term gs o.headers.now o.variables.now o.terms.now (Err short) × (r ≡ short_of short first))

abbrev pub Grouped : (first : ℕ) (term : Item → List ℕ) → List Group → LentOutputs → Result Lengths Refusal → Type 0
Grouped first term gs o r = SameSlices (old o) (new o) × GroupedAs first term gs (new o) r

-- The first k words of an output, and zeros behind them.
abbrev pub cut : ℕ → List ℕ → List ℕ
cut k o = take k o ++ replicate (length o - k) 0

abbrev pub Cleared : Lengths → LentOutputs → Type 0
Cleared n o =
    SameSlices (old o) (new o)
    × ((new o).headers.now ≡ cut n.headers (old o).headers.now)
    × ((new o).variables.now ≡ cut n.variables (old o).variables.now)
    × ((new o).terms.now ≡ cut n.terms (old o).terms.now)

-- The lengths of the scratch; and that a call leaves the same two slices in place, each of the length that it had.
abbrev pub scratch_lengths : Scratch → List ℕ
scratch_lengths x = length x.work.now ∷ length x.pool.now ∷ []

pub record SameScratch (before after : Scratch) : Type 0 where
  pub work : after.work.ghost_name ≡ before.work.ghost_name
  pub pool : after.pool.ghost_name ≡ before.pool.ghost_name
  pub work_long : length after.work.now ≡ length before.work.now
  pub pool_long : length after.pool.now ≡ length before.pool.now

-- "Then 14, work before pool": both are long enough for so many records, or the refusal is that of the two tests, whatever comes behind.
abbrev pub ScratchFits : (work pool records : ℕ) → Result (Unit {0}) Refusal → Type 0
ScratchFits work pool records (Ok u) = (4096 ≤ work) × (2 * records ≤ pool)
ScratchFits work pool records (Err r) =
    (rest : Answer Made) → refused (number_of r.reason) r.place ≡ needs 14 4096 work (needs 14 (2 * records) pool rest)

-- All words of work and pool are zero.
pub record ScratchCleared (x : LentScratch) : Type 0 where
  pub same : SameScratch (old x) (new x)
  pub work : (new x).work.now ≡ zeros (length (old x).work.now)
  pub pool : (new x).pool.now ≡ zeros (length (old x).pool.now)

-- The lists in front of the outputs, or the refusal, are an answer for the lent lengths, those of the scratch first.
pub record ConstraintsAre (scratch : List ℕ) (o : LentOutputs) (r : Result Lengths Refusal) (answer : List ℕ → Answer Made) : Type 0 where
  pub same : SameSlices (old o) (new o)
  pub inside : IfOk r (λ (n : Lengths). Fit n (new o))
  pub answers : and_then (answer_of r) (λ (n : Lengths). result (words_of n (new o)) []) ≡ answer (scratch ++ lengths_of (old o))

-- The answer for a sheet's words, and for the sheet that checked words are.
abbrev pub on_words : (ws : List ℕ) → ((p : ℕ) (lent : List ℕ) → Sheet → Answer Made) → (lent : List ℕ) → Answer Made
on_words ws answer lent = on_sheet (prime_of ws) ws (answer (prime_of ws) lent)

abbrev pub on_read : (ws : List ℕ) → ((p : ℕ) (lent : List ℕ) → Sheet → Answer Made) → (lent : List ℕ) → Answer Made
on_read ws answer lent = answer (prime_of ws) lent (read_sheet ws)
