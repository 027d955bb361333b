-- The sheet check (01: "words are read from the front and the first that fails decides").
use Rattle.std.specs.Prelude.{Bool, cond, List, [], ◌∷◌, ℕ, zero, suc, ◌+◌, eqb, get_or, take, drop, replicate}
use Rattle.semantics.specs.Arithmetic.{prime}
use Rattle.semantics.specs.Answer.{Answer, good, refused}
use Rattle.semantics.specs.Sheet.{Record, Interaction, Sheet, record_of, place, record_tests, interaction_tests, head_tests, refers}

-- So far: the index of the next word and the words from there on, or the refusal with its number and place.
pub data Scan : Type 0 where
  reading : ℕ → List ℕ → Scan
  stopped : ℕ → ℕ → Scan

-- The next words, one for each test: a word that fails its test stops with the number given, and one past the end with 4
-- ("a needed word is past the end. Place: the sheet's length").
unfoldable pub scan_words : ℕ → List (ℕ → Bool) → Scan → Scan
scan_words n [] s = s
scan_words n (t ∷ ts) (reading i []) = stopped 4 i
scan_words n (t ∷ ts) (reading i (w ∷ ws)) = cond (t w) (scan_words n ts (reading (suc i) ws)) (stopped n i)
scan_words n (t ∷ ts) (stopped m k) = stopped m k

-- The tests of the words that come next, where those follow from the words themselves.
unfoldable pub scan_part : ℕ → (List ℕ → List (ℕ → Bool)) → Scan → Scan
scan_part n tests (reading i ws) = scan_words n (tests ws) (reading i ws)
scan_part n tests (stopped m k) = stopped m k

-- As many parts as said, each with its number from `own` on.
unfoldable pub scan_parts : ℕ → (ℕ → List ℕ → List (ℕ → Bool)) → (count own : ℕ) → Scan → Scan
scan_parts n tests zero own s = s
scan_parts n tests (suc count) own s = scan_parts n tests count (suc own) (scan_part n (tests own) s)

-- "7: a spare word isn't zero, or is the 127th spare word": `room` spare words may still stand.
unfoldable pub scan_spare : (room : ℕ) → Scan → Scan
scan_spare room (reading i []) = reading i []
scan_spare zero (reading i (w ∷ ws)) = stopped 7 i
scan_spare (suc room) (reading i (w ∷ ws)) = cond (eqb w 0) (scan_spare room (reading (suc i) ws)) (stopped 7 i)
scan_spare room (stopped m k) = stopped m k

-- Head (3), records (5), constraints and interactions (6), spare words (7).
unfoldable pub scan_sheet : (p : ℕ) → List ℕ → Scan
scan_sheet p ws =
    let E : ℕ = get_or ws 1 0 in
    let C : ℕ = get_or ws 2 0 in
    let I : ℕ = get_or ws 3 0 in
    scan_spare 126
    (scan_parts 6 (λ own. interaction_tests E) I 0
    (scan_words 6 (replicate C (refers E))
    (scan_parts 5 (record_tests p) E 0
    (scan_words 3 head_tests (reading 0 ws)))))

-- What the words say, read by the counts in the head.
unfoldable pub read_record : List ℕ → Record
read_record ws = record_of (get_or ws 0 0) (get_or ws 1 0) (get_or ws 2 0) (get_or ws 3 0) (get_or ws 4 0)

unfoldable pub read_records : ℕ → List ℕ → List Record
read_records zero ws = []
read_records (suc n) ws = read_record ws ∷ read_records n (drop 5 ws)

unfoldable pub read_interaction : List ℕ → Interaction
read_interaction ws = record {
  bus = get_or ws 0 0;
  weight = get_or ws 1 0;
  count = get_or ws 2 0;
  message = take (get_or ws 3 0) (drop 4 ws);
}

unfoldable pub read_interactions : ℕ → List ℕ → List Interaction
read_interactions zero ws = []
read_interactions (suc n) ws = read_interaction ws ∷ read_interactions n (drop (4 + get_or ws 3 0) ws)

unfoldable pub read_sheet : List ℕ → Sheet
read_sheet ws = record {
  records = read_records (get_or ws 1 0) (drop 4 ws);
  constraints = take (get_or ws 2 0) (drop (place 5 (get_or ws 1 0)) ws);
  interactions = read_interactions (get_or ws 3 0) (drop (place 5 (get_or ws 1 0) + get_or ws 2 0) ws);
}

-- The prime of a sheet, by its words.
abbrev pub prime_of : List ℕ → ℕ
prime_of ws = prime

-- A sheet, where no word failed.
unfoldable pub judged : {X : Type 0} → Scan → X → Answer X
judged (reading i ws) x = good x
judged (stopped n k) x = refused n k

unfoldable pub check : (p : ℕ) → List ℕ → Answer Sheet
check p ws = judged (scan_sheet p ws) (read_sheet ws)
