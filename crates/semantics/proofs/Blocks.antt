-- Blocks that were written read back as the words written, with zeros behind them.
use mathlib.Core.Path.{◌≡◌, refl, sym, ◌∙◌, ap, subst}
use mathlib.Core.Bool.{true, false}
use mathlib.Core.List.{List, [], ◌∷◌, ◌++◌, flat_map, append_assoc}
use Prim.Native.Nat.{ℕ, zero, suc, ◌+◌, ◌*◌, ◌-◌, ◌/◌, ◌%◌, ◌≤◌, ◌<◌}
use native.Mathlib.Omega.{arith}
use native.Mathlib.Nat.{mod-add-div, div-div-eq-div-mul, zero-sub, sub-zero, suc-sub-suc, zero-add, suc-add}
use lib.ListN.{length, drop, replicate, length-append}
use lib.Seq.{drop_at, take-nil, take_all, drop-nil}
use borrow.Author.Tests.{eq-eqb, ne_eqb, le-ltb}
use Rattle.slices.proofs.Lists.{flat_length}
use Rattle.semantics.specs.Answer.{Answer, good, and_then}
use Rattle.semantics.specs.Lists.{All}
use Rattle.semantics.specs.Sheet.{Sheet, Inside, encode, length_of}
use Rattle.semantics.specs.Check.{check}
use Rattle.semantics.specs.Call.{Result, Accepted, outcome, handed_back, needs, result, reader_call, on_sheet, writer_call}
use Rattle.semantics.specs.Block.{word_bytes, word_at, words_of, check_word, block_good, bad_length, read_blocks, block_bytes, first_words, write_blocks, blocks_for}
use Rattle.semantics.proofs.Basics.{cond_true, cond_false}
use Rattle.semantics.proofs.Lists.{all_front, all_drop}
use Rattle.semantics.proofs.Places.{place_head}
use Rattle.semantics.proofs.Encoding.{check_sound, check_complete, check_inside, sheet_length, length_limit}
use Rattle.semantics.proofs.Calls.{needs_met, handed_back_lem, accepted}

-- Each is a word of 32 bits.
abbrev pub Words : List ℕ → Type 0
Words ws = All (λ (w : ℕ). w < 4294967296) ws

digits : (w x y z a b c d : ℕ) → a + 256 * x ≡ w → b + 256 * y ≡ x → c + 256 * z ≡ y → d ≡ z
    → a + 256 * b + 65536 * c + 16777216 * d ≡ w
digits w x y z a b c d e f g h = omega arith

pub word_back : (w : ℕ) (bs : List ℕ) → w < 4294967296 → word_at (word_bytes w ++ bs) ≡ w
unfolding word_at word_bytes
word_back w bs h =
    digits w (w / 256) (w / 65536) (w / 16777216) _ _ _ _
    (mod-add-div w 256)
    (ap (λ (n : ℕ). w / 256 % 256 + 256 * n) (sym (div-div-eq-div-mul w 256 256)) ∙ mod-add-div (w / 256) 256)
    (ap (λ (n : ℕ). w / 65536 % 256 + 256 * n) (sym (div-div-eq-div-mul w 65536 256)) ∙ mod-add-div (w / 65536) 256)
    (omega arith)

-- The bytes of words.
pub words_back : (ws bs : List ℕ) → Words ws → words_of (length ws) (flat_map word_bytes ws ++ bs) ≡ ws
unfolding flat_map words_of word_bytes
words_back [] bs h = refl
words_back (w ∷ ws) bs h = λ i. word_back w (flat_map word_bytes ws ++ bs) h.0 i ∷ words_back ws bs h.1 i

pub bytes_length : (ws : List ℕ) → length (flat_map word_bytes ws) ≡ 4 * length ws
unfolding word_bytes
bytes_length = flat_length word_bytes 4 (λ w. refl)

-- The first words, with zeros where there are none.
first_zero : (ws : List ℕ) → first_words zero ws ≡ []
unfolding first_words
first_zero ws = simp zero-sub

first_nil : (n : ℕ) → first_words (suc n) [] ≡ 0 ∷ first_words n []
unfolding first_words
first_nil n = simp (sub-zero, take-nil)

first_cons : (n w : ℕ) (ws : List ℕ) → first_words (suc n) (w ∷ ws) ≡ w ∷ first_words n ws
unfolding first_words
first_cons n w ws = simp suc-sub-suc

pub first_length : (n : ℕ) (ws : List ℕ) → length (first_words n ws) ≡ n
first_length zero ws = rw (first_zero ws)
first_length (suc n) [] = rw (first_nil n) (ap suc (first_length n []))
first_length (suc n) (w ∷ ws) = rw (first_cons n w ws) (ap suc (first_length n ws))

-- So many words and then so many more.
pub first_add : (m n : ℕ) (ws : List ℕ) → first_words (m + n) ws ≡ first_words m ws ++ first_words n (drop m ws)
first_add zero n ws = simp (first_zero, zero-add)
first_add (suc m) n [] = simp (suc-add, first_nil, first_add m n []) (ap (λ (r : List ℕ). 0 ∷ (first_words m [] ++ first_words n r)) (drop-nil m))
first_add (suc m) n (w ∷ ws) = simp (suc-add, first_cons, first_add m n ws)

pub words_first : (n : ℕ) (ws : List ℕ) → Words ws → Words (first_words n ws)
words_first zero ws h = rw (first_zero ws) tt
words_first (suc n) [] h = rw (first_nil n) (omega arith, words_first n [] tt)
words_first (suc n) (w ∷ ws) h = rw (first_cons n w ws) (h.0, words_first n ws h.1)

-- A block that was written: its length, its words, and its check.
pub block_length : (number : ℕ) (ws : List ℕ) → length (block_bytes number ws) ≡ 4 * length ws + 4
unfolding block_bytes word_bytes
block_length number ws = simp (length-append, bytes_length)

-- `n` is how many words it has.
module _ (number n : ℕ) (ws : List ℕ) (e : length ws ≡ n) (bs : List ℕ) where
  block_words : Words ws → words_of n (block_bytes number ws ++ bs) ≡ ws
  unfolding block_bytes
  block_words h = rw (← e, append_assoc) (words_back ws (word_bytes (check_word number ws) ++ bs) h)

  block_check_lem : word_at (drop (4 * n) (block_bytes number ws ++ bs)) ≡ check_word number ws
  unfolding block_bytes check_word
  block_check_lem =
      ap (λ (l : List ℕ). word_at (drop (4 * n) l)) (append_assoc (flat_map word_bytes ws) (word_bytes (check_word number ws)) bs)
      ∙ ap word_at (drop_at (flat_map word_bytes ws) _ (4 * n) (omega (arith, bytes_length ws)))
      ∙ word_back (check_word number ws) bs (omega arith)

  block_rest : drop (4 * n + 4) (block_bytes number ws ++ bs) ≡ bs
  block_rest = drop_at (block_bytes number ws) bs (4 * n + 4) (omega (arith, block_length number ws))

pub block_good_lem : (number : ℕ) (ws bs : List ℕ) → length ws ≡ 127 → Words ws → block_good number (block_bytes number ws ++ bs) ≡ true
unfolding block_good
block_good_lem number ws bs e h =
    eq-eqb _ _ (block_check_lem number 127 ws e bs ∙ ap (check_word number) (sym (block_words number 127 ws e bs h)))

pub written_length : (n number : ℕ) (ws : List ℕ) → length (write_blocks n number ws) ≡ 512 * n
unfolding write_blocks
written_length zero number ws = refl
written_length (suc n) number ws =
    let ih = written_length n (suc number) (drop 127 ws) in
    simp (length-append, block_length, first_length) (omega arith)

-- Words that were written are read back, with zeros behind them to the end of the last block.
pub read_written : (n number : ℕ) (ws : List ℕ) → Words ws → read_blocks n number (write_blocks n number ws) ≡ good (first_words (127 * n) ws)
unfolding read_blocks write_blocks and_then
read_written zero number ws h = ap good (sym (first_zero ws))
read_written (suc n) number ws h =
    let us : List ℕ = first_words 127 ws in
    let bs : List ℕ = write_blocks n (suc number) (drop 127 ws) in
    let e : length us ≡ 127 = first_length 127 ws in
    let g : Words us = words_first 127 ws h in
    let ih = read_written n (suc number) (drop 127 ws) (all_drop (λ (w : ℕ). w < 4294967296) 127 ws h) in
    cond_true (block_good (suc number) (block_bytes (suc number) us ++ bs)) _ _ (block_good_lem (suc number) us bs e g)
    ∙ (λ i. and_then (read_blocks n (suc number) (block_rest (suc number) 127 us e bs i)) (λ ws. good (block_words (suc number) 127 us e bs g i ++ ws)))
    ∙ ap (λ (a : Answer (List ℕ)). and_then a (λ ws. good (us ++ ws))) ih
    ∙ ap good (sym (first_add 127 (127 * n) ws) ∙ ap (λ (m : ℕ). first_words m ws) (omega arith))

-- The first words, where there are no more.
pub first_whole : (n : ℕ) (ws : List ℕ) → length ws ≤ n → first_words n ws ≡ ws ++ replicate (n - length ws) 0
unfolding first_words
first_whole n ws h = ap (λ (l : List ℕ). l ++ replicate (n - length ws) 0) (take_all n ws h)

pub words_encode : (p : ℕ) (ws : List ℕ) (s : Sheet) → check p ws ≡ good s → Words ws → Words (encode s)
words_encode p ws s h w =
    let c = check_sound p ws s h in
    all_front (λ (w : ℕ). w < 4294967296) (encode s) (replicate c.1.0 0) (subst Words c.1.2 w)

-- A whole number of blocks, one or more and at most 710, is a length that the reader takes.
length_good : (n : ℕ) → 1 ≤ n → n ≤ 710 → bad_length (512 * n) ≡ false
unfolding bad_length
length_good n l h = rw (ne_eqb (512 * n) 0 (λ e. omega arith), eq-eqb (512 * n % 512) 0 (omega arith), le-ltb 363520 (512 * n) (omega arith))

abbrev one_output : List ℕ → Result
one_output ws = record { outputs = ws ∷ []; numbers = [] }

-- The reader, where the length and the room are right: its answer is that of the blocks.
pub reader_is : (bytes : List ℕ) (out : ℕ) → bad_length (length bytes) ≡ false → 127 * (length bytes / 512) ≤ out
    → reader_call bytes (out ∷ []) ≡ outcome [] (out ∷ []) (and_then (read_blocks (length bytes / 512) 0 bytes) (λ ws. result (ws ∷ []) []))
unfolding reader_call
reader_is bytes out b r =
    ap (outcome [] (out ∷ [])) (cond_false (bad_length (length bytes)) _ _ b ∙ needs_met 15 (127 * (length bytes / 512)) out _ r)

-- What the reader hands back for blocks that read as some words.
pub reader_reads : (n : ℕ) (bytes ws : List ℕ) (out : ℕ) → length bytes ≡ 512 * n → 1 ≤ n → n ≤ 710 → 127 * n ≤ out
    → read_blocks n 0 bytes ≡ good ws
    → Accepted (reader_call bytes (out ∷ [])) × (handed_back 0 (reader_call bytes (out ∷ [])) 0 ≡ ws)
unfolding and_then result
reader_reads n bytes ws out e l h r g =
    rw (reader_is bytes out (ap bad_length e ∙ length_good n l h) (omega arith))
    (accepted [] (out ∷ []) _ (one_output ws) answer, handed_back_lem [] (out ∷ []) _ (one_output ws) answer 0 (omega arith))
  where
    count : length bytes / 512 ≡ n
    count = omega arith

    answer : and_then (read_blocks (length bytes / 512) 0 bytes) (λ ws. result (ws ∷ []) []) ≡ good (one_output ws)
    answer = ap (λ (a : Answer (List ℕ)). and_then a (λ ws. result (ws ∷ []) [])) (ap (λ (m : ℕ). read_blocks m 0 bytes) count ∙ g)

-- What the writer hands back for a sheet.
pub writer_writes : (p : ℕ) (ws : List ℕ) (s : Sheet) (out : ℕ) → check p ws ≡ good s → 512 * blocks_for (length_of s) ≤ out
    → Accepted (writer_call p ws (out ∷ [])) × (handed_back 0 (writer_call p ws (out ∷ [])) 0 ≡ write_blocks (blocks_for (length_of s)) 0 (encode s))
unfolding writer_call on_sheet and_then result
writer_writes p ws s out h r =
    (accepted [] (out ∷ []) _ (one_output (bytes s)) answer, handed_back_lem [] (out ∷ []) _ (one_output (bytes s)) answer 0 (omega arith))
  where
    bytes : Sheet → List ℕ
    bytes s = write_blocks (blocks_for (length_of s)) 0 (encode s)

    write : Sheet → Answer Result
    write s = needs 15 (512 * blocks_for (length_of s)) out (result (bytes s ∷ []) [])

    answer : and_then (check p ws) write ≡ good (one_output (bytes s))
    answer = ap (λ (a : Answer Sheet). and_then a write) h ∙ needs_met 15 (512 * blocks_for (length_of s)) out (result (bytes s ∷ []) []) r

-- A sheet that was written reads back as its words and zeros, which are again the words of that sheet.
pub sheet_blocks_lem : (p : ℕ) (s : Sheet) → Inside p s → (1 ≤ blocks_for (length_of s)) × (blocks_for (length_of s) ≤ 710)
unfolding blocks_for
sheet_blocks_lem p s h =
    let l = length_limit p s h in
    let e = sheet_length s in
    (omega (arith, place_head 5 (length s.records)), omega arith)

pub written_read : (p : ℕ) (ws : List ℕ) (s : Sheet) (out out' : ℕ) → check p ws ≡ good s → Words (encode s)
    → 512 * blocks_for (length_of s) ≤ out → 127 * blocks_for (length_of s) ≤ out'
    → Accepted (writer_call p ws (out ∷ []))
    × Accepted (reader_call (handed_back 0 (writer_call p ws (out ∷ [])) 0) (out' ∷ []))
    × (handed_back 0 (reader_call (handed_back 0 (writer_call p ws (out ∷ [])) 0) (out' ∷ [])) 0 ≡ first_words (127 * blocks_for (length_of s)) (encode s))
written_read p ws s out out' h w l l' =
    let n : ℕ = blocks_for (length_of s) in
    let b = sheet_blocks_lem p s (check_inside p ws s h) in
    let v = writer_writes p ws s out h l in
    let r = reader_reads n (write_blocks n 0 (encode s)) _ out' (written_length n 0 (encode s)) b.0 b.1 l' (read_written n 0 (encode s) w) in
    (v.0, rw v.1 r.0, rw v.1 r.1)

pub written_checks : (p : ℕ) (s : Sheet) → Inside p s → check p (first_words (127 * blocks_for (length_of s)) (encode s)) ≡ good s
unfolding blocks_for length_of
written_checks p s h =
    ap (check p) (first_whole (127 * blocks_for (length_of s)) (encode s) (omega arith))
    ∙ check_complete p s (127 * blocks_for (length_of s) - length_of s) h (omega arith)
