-- What the answers of the steps of the check mean.
use Rattle.std.specs.Prelude.{◌≡◌, Bool, List, ◌∷◌, ℕ, ◌<◌, Result, Ok, Err}
use denote.Ref.{MutBor}
use Rattle.semantics.specs.Sheet.{unused, entry, part, offset, any_word, constant, child}
use Rattle.semantics.specs.Check.{Scan, stopped, scan_part}
use Rattle.answers.specs.declared.Refusal.{Refusal}
use Rattle.answers.specs.Replies.{number_of}
use Rattle.sheet.specs.Readings.{Reading, from}
use Rattle.sheet.specs.declared.scan.Use.{Use}
use Rattle.sheet.specs.declared.scan.Use.TheVariants as uses

-- A step of the scan: it goes on from where the reading now stands, or it stopped at the refusal.
abbrev pub scan_of : {X : Type 0} → Result X Refusal → Reading → Scan
scan_of (Ok x) now = from now
scan_of (Err r) now = stopped (number_of r.reason) r.place

-- The word that was read stood in front of those that are left.
abbrev pub Read : Result ℕ Refusal → (old new : Reading) → Type 0
Read (Ok w) old new = old.words ≡ w ∷ new.words
Read (Err r) old new = Unit {0}

-- The three counts of a head stood behind its form.
abbrev pub Counts : Result (ℕ × ℕ × ℕ) Refusal → (old new : Reading) → Type 0
Counts (Ok (e, c, i)) old new = (form : ℕ) × (old.words ≡ form ∷ e ∷ c ∷ i ∷ new.words)
Counts (Err r) old new = Unit {0}

-- What is said of a word is what a test says.
abbrev pub Decides : (says : ℕ → Bool → Type 0) → (test : ℕ → Bool) → Type 0
Decides says test = (w : ℕ) (passes : Bool) → w < 4294967296 → says w passes → passes ≡ test w

-- Each part is judged by the scan of its tests.
abbrev pub Judges : (n : ℕ) → (tests : ℕ → List ℕ → List (ℕ → Bool)) → (count : ℕ)
    → (says : MutBor Reading → ℕ → Result (Unit {0}) Refusal → MutBor Reading → Type 0) → Type 0
Judges n tests count says =
    (old new : MutBor Reading) (own : ℕ) (r : Result (Unit {0}) Refusal) → own < count → says old own r new
    → scan_of r new.now ≡ scan_part n (tests own) (from old.now)

-- The uses in the table.
abbrev pub use_of : Use → ℕ
use_of uses.Unused = unused
use_of uses.Entry = entry
use_of uses.Part = part
use_of uses.Offset = offset
use_of uses.Any = any_word
use_of uses.Constant = constant
use_of uses.Child = child
