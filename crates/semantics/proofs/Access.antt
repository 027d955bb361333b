-- Where the words of a checked sheet stand.
use mathlib.Core.Path.{◌≡◌, refl, sym, ◌∙◌, ap}
use mathlib.Core.List.{List, ◌++◌, flat_map, append_assoc}
use Prim.Native.Nat.{ℕ, ◌+◌, ◌≤◌, ◌<◌}
use native.Mathlib.Omega.{arith}
use lib.ListN.{length, get_or, drop, replicate, length-append}
use lib.Seq.{drop_at}
use Rattle.semantics.specs.Answer.{good}
use Rattle.semantics.specs.Sheet.{Sheet, record_words, interaction_words, head_words, encode, place}
use Rattle.semantics.specs.Check.{check}
use Rattle.semantics.specs.Value.{no_record, record_at}
use Rattle.semantics.proofs.Places.{place_word, record_wide, records_end}
use Rattle.semantics.proofs.Encoding.{check_sound}

-- The words of a sheet in a row: what was checked, and zeros.
module _ (p : ℕ) (ws : List ℕ) (s : Sheet) (h : check p ws ≡ good s) where
  abbrev pub spare : ℕ
  spare = (check_sound p ws s h).1.0

  pub words_are : ws ≡ head_words s ++ (flat_map record_words s.records ++ (s.constraints ++ (flat_map interaction_words s.interactions ++ replicate spare 0)))
  unfolding encode
  words_are = (check_sound p ws s h).1.2 ∙ simp append_assoc

  -- The counts in the head.
  pub count_words_lem : (get_or ws 1 0 ≡ length s.records) × (get_or ws 2 0 ≡ length s.constraints) × (get_or ws 3 0 ≡ length s.interactions)
  unfolding head_words
  count_words_lem = (ap (λ (l : List ℕ). get_or l 1 0) words_are, ap (λ (l : List ℕ). get_or l 2 0) words_are, ap (λ (l : List ℕ). get_or l 3 0) words_are)

  four : length (head_words s) ≡ 4
  unfolding head_words
  four = refl

  -- Word j of record i.
  pub record_word : (i j : ℕ) → i < length s.records → j < 5 → get_or ws (place 5 i + j) 0 ≡ get_or (record_words (record_at s.records i)) j 0
  unfolding record_at
  record_word i j l k =
      ap (λ (u : List ℕ). get_or u (place 5 i + j) 0) words_are
      ∙ place_word record_words 5 record_wide (head_words s) four s.records _ no_record i j l k

  before_constraints : length (head_words s ++ flat_map record_words s.records) ≡ place 5 (length s.records)
  before_constraints = length-append (head_words s) (flat_map record_words s.records) ∙ omega (arith, four, records_end s.records)

  -- The interactions, from where they start.
  pub interactions_from : drop (place 5 (length s.records) + length s.constraints) ws ≡ flat_map interaction_words s.interactions ++ replicate spare 0
  interactions_from =
      ap (drop (place 5 (length s.records) + length s.constraints))
      (words_are ∙ sym (append_assoc (head_words s) (flat_map record_words s.records) _)
      ∙ sym (append_assoc (head_words s ++ flat_map record_words s.records) s.constraints _))
      ∙ drop_at ((head_words s ++ flat_map record_words s.records) ++ s.constraints) _ (place 5 (length s.records) + length s.constraints)
      (length-append (head_words s ++ flat_map record_words s.records) s.constraints ∙ omega (arith, before_constraints))

  -- A checked slice is at least as long as its sheet.
  pub words_count : place 5 (length s.records) + length s.constraints + length (flat_map interaction_words s.interactions) ≤ length ws
  words_count = let e = simp length-append at (ap length words_are) in omega (arith, four, records_end s.records)

  pub words_long : length (encode s) ≤ length ws
  words_long = let e = ap length (check_sound p ws s h).1.2 ∙ length-append (encode s) (replicate spare 0) in omega arith
