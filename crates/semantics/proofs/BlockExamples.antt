-- The weights of the check word, and for each statement of what the check sees an example that meets its premises, by computation.
use mathlib.Core.Path.{◌≡◌, refl, subst}
use mathlib.Core.Bool.{true, false}
use mathlib.Core.List.{List, [], ◌∷◌, ◌++◌, flat_map}
use Prim.Native.Nat.{ℕ, suc, ◌*◌, ◌/◌, ◌<◌}
use native.Mathlib.Omega.{arith}
use lib.ListN.{length, drop, replicate}
use Rattle.semantics.specs.Answer.{refused, and_then}
use Rattle.semantics.specs.Block.{word_bytes, word_at, words_of, weighted, check_word, block_good, block_check, bad_length, read_blocks, block_bytes, first_words, write_blocks}
use Rattle.semantics.specs.Call.{Accepted, outcome, needs, result, block_check_call, reader_call}
use Rattle.semantics.specs.BlockCheck.{word_in, with_word, swapped, unseen, plain_check_word, UnderPlain, sums_agree, says}
use Rattle.semantics.proofs.BlockCheck.{written_bytes, check_sees, reader_sees}

-- Word i alone is 1, behind i zeros.
one : (i : ℕ) → List ℕ
one i = first_words 127 (replicate i 0 ++ (1 ∷ []))

-- "1 for the first, 3 for the second, up to 253", "plus the block's number from 1", "modulo 2^32"
weights : (check_word 0 (one 0) ≡ 1) × (check_word 0 (one 1) ≡ 3) × (check_word 0 (one 126) ≡ 253) × (check_word 710 (one 126) ≡ 963)
    × (check_word 4294967295 (one 1) ≡ 2)
unfolding one first_words check_word weighted
weights = (refl, refl, refl, refl, refl)

-- A block of the words 5, 5 + 2^31, 7, 7, 9 and zeros, and two such blocks.
words : List ℕ
words = 5 ∷ 2147483653 ∷ 7 ∷ 7 ∷ 9 ∷ []

block : List ℕ
block = write_blocks 1 0 words

blocks : List ℕ
blocks = write_blocks 2 0 (first_words 127 words ++ words)

-- A block whose last two words are 0 and 1.
last_block : List ℕ
last_block = write_blocks 1 0 (one 126)

-- A block whose sums agree: the word 6 alone. The first block with the plain sum as its check word; and two blocks under the plain sum, of which the first one's
-- sums agree.
agreeing : List ℕ
agreeing = write_blocks 1 0 (6 ∷ [])

plain_block : List ℕ
plain_block = with_word 127 (plain_check_word 1 (first_words 127 words)) block

plain_blocks : List ℕ
plain_blocks = agreeing ++ with_word 127 (plain_check_word 2 (first_words 127 words)) (drop 512 blocks)

-- The check of each, and of what the statements speak of, computed.
computed : (block_check_call block 1 ≡ says true) × (block_check_call (with_word 4 8 block) 1 ≡ says false) × (block_check_call (with_word 127 0 block) 1 ≡ says false)
    × (block_check_call (swapped 0 block) 1 ≡ says true) × (block_check_call (swapped 2 block) 1 ≡ says true) × (block_check_call (swapped 1 block) 1 ≡ says false)
    × (block_check_call last_block 1 ≡ says true) × (block_check_call (swapped 125 last_block) 1 ≡ says false)
    × (block_check_call plain_block 1 ≡ says false) × (block_check_call agreeing 1 ≡ says true)
unfolding words one block last_block plain_block agreeing write_blocks first_words block_bytes flat_map word_bytes block_check_call block_check block_good words_of word_at
    check_word weighted outcome and_then result says word_in with_word swapped plain_check_word
computed = (refl, refl, refl, refl, refl, refl, refl, refl, refl, refl)

-- The same by the statements: one word altered, 9 to 8 and the check word; neighbours 2^31 apart, equal, and neither; the plain sum.
check_examples : (block_check_call (with_word 4 8 block) 1 ≡ says false) × (block_check_call (with_word 127 0 block) 1 ≡ says false)
    × (block_check_call (swapped 0 block) 1 ≡ says true) × (block_check_call (swapped 2 block) 1 ≡ says true) × (block_check_call (swapped 1 block) 1 ≡ says false)
    × (block_check_call (swapped 125 last_block) 1 ≡ says false)
    × (block_check_call plain_block 1 ≡ says false) × (block_check_call agreeing 1 ≡ says true)
unfolding words one block last_block plain_block agreeing write_blocks first_words block_bytes flat_map word_bytes block_check_call block_check block_good words_of word_at
    check_word weighted outcome and_then result says word_in with_word swapped unseen plain_check_word sums_agree
check_examples =
    let b = written_bytes 1 0 words in
    let l = written_bytes 1 0 (one 126) in (
      check_sees.altered block 1 4 8 b refl (omega arith) (omega arith, λ e. omega arith),
      check_sees.altered block 1 127 0 b refl (omega arith) (omega arith, λ e. omega arith),
      check_sees.neighbours block 1 0 b refl (omega arith),
      check_sees.neighbours block 1 2 b refl (omega arith),
      check_sees.neighbours block 1 1 b refl (omega arith),
      check_sees.neighbours last_block 1 125 l refl (omega arith),
      check_sees.plain plain_block 1 refl refl,
      check_sees.plain agreeing 1 refl refl,
    )

-- In the second of two blocks, read into 300 words: one word altered; neighbours 2^31 apart, equal, and neither.
reader_examples : (reader_call (with_word 132 8 blocks) (300 ∷ []) ≡ outcome [] (300 ∷ []) (refused 2 1))
    × Accepted (reader_call (swapped 128 blocks) (300 ∷ [])) × Accepted (reader_call (swapped 130 blocks) (300 ∷ []))
    × (reader_call (swapped 129 blocks) (300 ∷ []) ≡ outcome [] (300 ∷ []) (refused 2 1))
unfolding words blocks write_blocks first_words block_bytes flat_map word_bytes reader_call bad_length needs read_blocks block_good words_of word_at check_word
    weighted outcome and_then result word_in with_word swapped unseen
reader_examples =
    let b = written_bytes 2 0 (first_words 127 words ++ words) in (
      reader_sees.altered blocks 300 1 4 8 b refl (omega arith) (omega arith) (omega arith, λ e. omega arith),
      reader_sees.neighbours_unseen blocks 300 1 0 b refl (omega arith) (omega arith) refl,
      reader_sees.neighbours_unseen blocks 300 1 2 b refl (omega arith) (omega arith) refl,
      reader_sees.neighbours blocks 300 1 1 b refl (omega arith) (omega arith) refl,
    )

-- The second block's sums do not agree; the only block's do.
plain_examples : (reader_call plain_blocks (300 ∷ []) ≡ outcome [] (300 ∷ []) (refused 2 1))
    × (sums_agree 1 agreeing ≡ true) × Accepted (reader_call agreeing (127 ∷ []))
unfolding words blocks agreeing plain_blocks write_blocks first_words block_bytes flat_map word_bytes bad_length reader_call needs read_blocks block_good words_of
    word_at check_word weighted outcome and_then result word_in with_word plain_check_word sums_agree
plain_examples = (
  reader_sees.plain plain_blocks 300 1 refl (omega arith) (omega arith) first refl refl,
  reader_sees.plain_accepted agreeing 127 0 refl (omega arith) refl,
  reader_sees.plain_unseen agreeing 127 refl (omega arith) only,
)
  where
    first : (i : ℕ) → i < 1 → block_good (suc i) (drop (512 * i) plain_blocks) ≡ true
    first i h = let z : 0 ≡ i = omega arith in subst (λ (i : ℕ). block_good (suc i) (drop (512 * i) plain_blocks) ≡ true) z refl

    only : (i : ℕ) → i < length agreeing / 512 → UnderPlain (suc i) (drop (512 * i) agreeing) × (sums_agree (suc i) (drop (512 * i) agreeing) ≡ true)
    only i h =
        let z : 0 ≡ i = omega arith in
        subst (λ (i : ℕ). UnderPlain (suc i) (drop (512 * i) agreeing) × (sums_agree (suc i) (drop (512 * i) agreeing) ≡ true)) z (refl, refl)
