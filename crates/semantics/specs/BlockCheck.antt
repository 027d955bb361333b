-- What the check of a block sees (02, R-8), of the block check alone and of the reader.
use Rattle.std.specs.Prelude.{◌≡◌, Bool, true, false, cond, ◌||◌, ℕ, suc, ◌+◌, ◌*◌, ◌/◌, ◌%◌, ◌≤◌, ◌<◌, eqb, length, drop}
use mathlib.Core.List.{List, [], ◌∷◌, foldr}
use Rattle.slices.specs.Putting.{put}
use Rattle.semantics.specs.Answer.{refused}
use Rattle.semantics.specs.Lists.{All}
use Rattle.semantics.specs.Block.{word_bytes, word_at, words_of, check_word, block_good, bad_length}
use Rattle.semantics.specs.Call.{Outcome, Accepted, outcome, result, block_check_call, reader_call}

abbrev pub Bytes : List ℕ → Type 0
Bytes bs = All (λ (b : ℕ). b < 256) bs

-- Word j of some bytes, counted from 0.
unfoldable pub word_in : (j : ℕ) → List ℕ → ℕ
word_in j bs = word_at (drop (4 * j) bs)

-- The bytes with w as their word j.
unfoldable pub with_word : (j w : ℕ) → List ℕ → List ℕ
with_word j w bs = put bs (4 * j) (word_bytes w)

-- The bytes with words j and j + 1 exchanged.
unfoldable pub swapped : (j : ℕ) → List ℕ → List ℕ
swapped j bs = with_word (suc j) (word_in j bs) (with_word j (word_in (suc j) bs) bs)

-- "they are equal or differ by exactly 2^31"
unfoldable pub unseen : (x y : ℕ) → Bool
unseen x y = eqb x y || eqb x (y + 2147483648) || eqb y (x + 2147483648)

-- The check word of 01, which R-8 replaced: "the sum modulo 2^32 of the 127 words and the block's number counted from 1".
unfoldable pub plain_check_word : (number : ℕ) → List ℕ → ℕ
plain_check_word number ws = foldr ◌+◌ number ws % 4294967296

-- A block "under the old sum", and whether "both sums agree".
abbrev pub UnderPlain : (number : ℕ) → List ℕ → Type 0
UnderPlain number bs = word_in 127 bs ≡ plain_check_word number (words_of 127 bs)

unfoldable pub sums_agree : (number : ℕ) → List ℕ → Bool
sums_agree number bs = eqb (plain_check_word number (words_of 127 bs)) (check_word number (words_of 127 bs))

-- The answer of the block check alone: yes or no.
unfoldable pub says : Bool → Outcome
says yes' = outcome [] [] (result [] (cond yes' 1 0 ∷ []))

-- A word that is not the one at word j.
abbrev pub OtherWord : (j w : ℕ) → List ℕ → Type 0
OtherWord j w bs = (w < 4294967296) × (w ≡ word_in j bs → ⊥)

-- "One altered word is always seen. Two neighbours among the 127 words of one block, swapped, are seen unless they are equal or differ by exactly 2^31": of bytes
-- that the check says yes to under a number (so there are 512), one of the 128 words altered, and two neighbours exchanged. And 512 bytes under the plain sum.
pub record CheckSees : Type 0 where
  pub altered : (bs : List ℕ) (number j w : ℕ) → Bytes bs → block_check_call bs number ≡ says true → j < 128 → OtherWord j w bs
      → block_check_call (with_word j w bs) number ≡ says false
  pub neighbours : (bs : List ℕ) (number i : ℕ) → Bytes bs → block_check_call bs number ≡ says true → i ≤ 125
      → block_check_call (swapped i bs) number ≡ says (unseen (word_in i bs) (word_in (suc i) bs))
  pub plain : (bs : List ℕ) (number : ℕ) → length bs ≡ 512 → UnderPlain number bs → block_check_call bs number ≡ says (sums_agree number bs)

-- What the reader accepted into an output of some length, read again into one of that length: with a word of block k, counted from 0, altered; with two
-- neighbours in it exchanged, seen and unseen. "Blocks under the old sum are refused with 2 unless both sums agree": of whole blocks, not too many and with room
-- for their words, block k is the first that is not good, because it is under the plain sum and its sums do not agree; in a block under the plain sum that was
-- accepted they agree; and where all blocks are under it and their sums agree, they are accepted.
pub record ReaderSees : Type 0 where
  pub altered : (bs : List ℕ) (out k j w : ℕ) → Bytes bs → Accepted (reader_call bs (out ∷ [])) → k < length bs / 512 → j < 128 → OtherWord (128 * k + j) w bs
      → reader_call (with_word (128 * k + j) w bs) (out ∷ []) ≡ outcome [] (out ∷ []) (refused 2 k)
  pub neighbours : (bs : List ℕ) (out k i : ℕ) → Bytes bs → Accepted (reader_call bs (out ∷ [])) → k < length bs / 512 → i ≤ 125
      → unseen (word_in (128 * k + i) bs) (word_in (suc (128 * k + i)) bs) ≡ false
      → reader_call (swapped (128 * k + i) bs) (out ∷ []) ≡ outcome [] (out ∷ []) (refused 2 k)
  pub neighbours_unseen : (bs : List ℕ) (out k i : ℕ) → Bytes bs → Accepted (reader_call bs (out ∷ [])) → k < length bs / 512 → i ≤ 125
      → unseen (word_in (128 * k + i) bs) (word_in (suc (128 * k + i)) bs) ≡ true
      → Accepted (reader_call (swapped (128 * k + i) bs) (out ∷ []))
  pub plain : (bs : List ℕ) (out k : ℕ) → bad_length (length bs) ≡ false → 127 * (length bs / 512) ≤ out → k < length bs / 512
      → ((i : ℕ) → i < k → block_good (suc i) (drop (512 * i) bs) ≡ true)
      → UnderPlain (suc k) (drop (512 * k) bs) → sums_agree (suc k) (drop (512 * k) bs) ≡ false
      → reader_call bs (out ∷ []) ≡ outcome [] (out ∷ []) (refused 2 k)
  pub plain_accepted : (bs : List ℕ) (out k : ℕ) → Accepted (reader_call bs (out ∷ [])) → k < length bs / 512
      → UnderPlain (suc k) (drop (512 * k) bs) → sums_agree (suc k) (drop (512 * k) bs) ≡ true
  pub plain_unseen : (bs : List ℕ) (out : ℕ) → bad_length (length bs) ≡ false → 127 * (length bs / 512) ≤ out
      → ((i : ℕ) → i < length bs / 512 → UnderPlain (suc i) (drop (512 * i) bs) × (sums_agree (suc i) (drop (512 * i) bs) ≡ true))
      → Accepted (reader_call bs (out ∷ []))
