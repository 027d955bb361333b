-- Blocks (01: "Blocks are 512 bytes: 127 words, least byte first, then one check word").
use Rattle.std.specs.Prelude.{Bool, cond, not, ◌||◌, ℕ, zero, suc, ◌+◌, ◌*◌, ◌-◌, ◌/◌, ◌%◌, eqb, ltb, length, get_or, take, drop, replicate}
use mathlib.Core.List.{List, [], ◌∷◌, ◌++◌, flat_map}
use Rattle.semantics.specs.Answer.{Answer, good, refused, and_then}

-- A word as four bytes, least first, and back.
unfoldable pub word_bytes : ℕ → List ℕ
word_bytes w = w % 256 ∷ w / 256 % 256 ∷ w / 65536 % 256 ∷ w / 16777216 % 256 ∷ []

unfoldable pub word_at : List ℕ → ℕ
word_at bs = get_or bs 0 0 + 256 * get_or bs 1 0 + 65536 * get_or bs 2 0 + 16777216 * get_or bs 3 0

-- The first n words of some bytes.
unfoldable pub words_of : ℕ → List ℕ → List ℕ
words_of zero bs = []
words_of (suc n) bs = word_at bs ∷ words_of n (drop 4 bs)

-- "each of the 127 words times an odd weight (1 for the first, 3 for the second, up to 253)": the sum from word i on, counted from 0.
unfoldable pub weighted : (i : ℕ) → List ℕ → ℕ
weighted i [] = 0
weighted i (w ∷ ws) = (2 * i + 1) * w + weighted (suc i) ws

-- "the sum modulo 2^32 of each of the 127 words times an odd weight .., plus the block's number from 1" (02, R-8)
unfoldable pub check_word : (number : ℕ) → List ℕ → ℕ
check_word number ws = (weighted 0 ws + number) % 4294967296

-- A block ends with the check word of its words and its number.
unfoldable pub block_good : (number : ℕ) → List ℕ → Bool
block_good number bs = eqb (word_at (drop 508 bs)) (check_word number (words_of 127 bs))

-- "The block check, called alone, takes a slice and the block's number .. and says yes or no; a slice not of 512 bytes gives 1, place 0."
unfoldable pub block_check : (number : ℕ) → List ℕ → Answer Bool
block_check number bs = cond (eqb (length bs) 512) (good (block_good number bs)) (refused 1 0)

-- "byte length 0, not a multiple of 512, or above 363,520 (710 blocks)"
unfoldable pub bad_length : ℕ → Bool
bad_length n = eqb n 0 || not (eqb (n % 512) 0) || ltb 363520 n

-- The words of n blocks, of which the first here is the block `number` from 0; "2: a block's check differs. Place: block number from 0,
-- first such."
unfoldable pub read_blocks : (n number : ℕ) → List ℕ → Answer (List ℕ)
read_blocks zero number bs = good []
read_blocks (suc n) number bs =
    cond (block_good (suc number) bs)
    (and_then (read_blocks n (suc number) (drop 512 bs)) (λ ws. good (words_of 127 bs ++ ws)))
    (refused 2 number)

-- The block with this number from 1.
unfoldable pub block_bytes : (number : ℕ) → List ℕ → List ℕ
block_bytes number ws = flat_map word_bytes ws ++ word_bytes (check_word number ws)

-- The first n words, zeros where there are none.
unfoldable pub first_words : (n : ℕ) → List ℕ → List ℕ
first_words n ws = take n ws ++ replicate (n - length ws) 0

-- "The writer writes those L words and zero fill": n blocks, of which the first here is the block `number` from 0.
unfoldable pub write_blocks : (n number : ℕ) → List ℕ → List ℕ
write_blocks zero number ws = []
write_blocks (suc n) number ws = block_bytes (suc number) (first_words 127 ws) ++ write_blocks n (suc number) (drop 127 ws)

-- How many blocks so many words take.
unfoldable pub blocks_for : ℕ → ℕ
blocks_for n = (n + 126) / 127
