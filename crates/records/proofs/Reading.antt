-- The lists of a checked sheet, read from its words.
use mathlib.Core.Path.{◌≡◌, sym, ap, ◌∙◌}
use mathlib.Core.List.{List, ◌++◌, flat_map, append_assoc}
use Prim.Native.Nat.{ℕ, ◌≤◌}
use native.Mathlib.Omega.{arith}
use lib.ListN.{length, get_or, take, drop, replicate, length-append}
use lib.Seq.{take-append_seam, drop_at}
use Rattle.semantics.specs.Arithmetic.{prime}
use Rattle.semantics.specs.Answer.{good}
use Rattle.semantics.specs.Sheet.{Sheet, head_words, record_words, interaction_words}
use Rattle.semantics.specs.Check.{read_sheet, check}
use Rattle.semantics.proofs.Places.{place_head, records_end, records_limit}
use Rattle.semantics.proofs.Encoding.{head_limits, check_sound, sheet_back}
use Rattle.semantics.proofs.Access.{spare, words_are, words_count, count_words_lem, interactions_from}
use Rattle.records.specs.Access.{records_of, constraints_at, interactions_at}
use Rattle.records.proofs.Steps.{inside}

-- The sheet that was found is the one that the words read as.
pub read_found : (ws : List ℕ) (t : Sheet) → check prime ws ≡ good t → t ≡ read_sheet ws
read_found ws t e =
    let w = (check_sound prime ws t e).1 in
    sym (ap read_sheet w.2 ∙ sheet_back t (replicate w.0 0))

-- The constraints and the interactions of a checked sheet, where they stand.
module _ (ws : List ℕ) (h : check prime ws ≡ good (read_sheet ws)) where
  front_length : length (head_words (read_sheet ws) ++ flat_map record_words (read_sheet ws).records) ≡ constraints_at ws
  unfolding head_words
  front_length = simp length-append (omega (arith, records_end (records_of ws)))

  -- The head.
  pub head_inside : 4 ≤ length ws
  head_inside = omega (arith, words_count prime ws (read_sheet ws) h, place_head 5 (length (records_of ws)))

  pub head_counts : (get_or ws 1 0 ≡ length (records_of ws)) × (get_or ws 2 0 ≡ length (read_sheet ws).constraints) × (get_or ws 3 0 ≡ length (read_sheet ws).interactions)
  head_counts = count_words_lem prime ws (read_sheet ws) h

  pub counts_small : (length (records_of ws) ≤ 4096) × (length (read_sheet ws).constraints ≤ 1024) × (length (read_sheet ws).interactions ≤ 1024)
  counts_small = head_limits (read_sheet ws) (inside ws h).head

  pub constraints_are : take (length (read_sheet ws).constraints) (drop (constraints_at ws) ws) ≡ (read_sheet ws).constraints
  constraints_are =
      let front : List ℕ = head_words (read_sheet ws) ++ flat_map record_words (read_sheet ws).records in
      let cs : List ℕ = (read_sheet ws).constraints in
      ap (λ (u : List ℕ). take (length cs) (drop (constraints_at ws) u))
      (words_are prime ws (read_sheet ws) h ∙ sym (append_assoc (head_words (read_sheet ws)) (flat_map record_words (read_sheet ws).records) _))
      ∙ ap (take (length cs)) (drop_at front _ (constraints_at ws) front_length)
      ∙ take-append_seam cs _

  -- The places that are computed from the counts are inside the words.
  pub places_small : (constraints_at ws ≤ 20484) × (interactions_at ws ≤ 21508)
  places_small = let r = records_limit (length (records_of ws)) counts_small.0 in (r, omega (arith, counts_small))

  pub interactions_stand : (rest : List ℕ) × (drop (interactions_at ws) ws ≡ flat_map interaction_words (read_sheet ws).interactions ++ rest)
  interactions_stand = (replicate (spare prime ws (read_sheet ws) h) 0, interactions_from prime ws (read_sheet ws) h)

  pub interactions_within : interactions_at ws ≤ length ws
  interactions_within = omega (arith, words_count prime ws (read_sheet ws) h)
