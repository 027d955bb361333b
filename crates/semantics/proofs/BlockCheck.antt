-- What the check of a block sees: a word altered, two neighbours exchanged, a block under the plain sum.
use mathlib.Core.Path.{◌≡◌, refl, sym, ◌∙◌, ap, subst}
use mathlib.Core.Bool.{Bool, true, false, cond, ◌||◌}
use mathlib.Core.List.{List, [], ◌∷◌, ◌++◌, flat_map, append_assoc}
use Prim.Native.Nat.{ℕ, zero, suc, ◌+◌, ◌*◌, ◌-◌, ◌/◌, ◌%◌, ◌^◌, ◌≤◌, ◌<◌}
use native.Mathlib.Omega.{arith}
use native.Mathlib.Nat.{zero-add, add-zero, pow-suc, add-sub_of_le}
use lib.Dec.{eqb, leb, ltb}
use lib.ListN.{length, get_or, take, drop}
use lib.Seq.{get_or-drop, drop-drop, drop_at, length-take-le, ext_get_or}
use borrow.Author.Tests.{eq-eqb, ne_eqb, eqb-true, eqb-false, leb-true, leb-false, ltb-true, ltb-false}
use Rattle.slices.specs.Putting.{put}
use Rattle.slices.proofs.Puts.{put_length, get_or_before, get_or_after}
use Rattle.semantics.specs.Answer.{Answer, good, refused, and_then}
use Rattle.semantics.specs.Block.{word_bytes, word_at, words_of, weighted, check_word, block_good, block_check, bad_length, read_blocks, block_bytes, first_words, write_blocks}
use Rattle.semantics.specs.Walk.{member}
use Rattle.semantics.specs.Call.{Result, Outcome, Accepted, outcome, needs, result, block_check_call, reader_call}
use Rattle.semantics.specs.BlockCheck.{Bytes, word_in, with_word, swapped, unseen, UnderPlain, sums_agree, says, OtherWord, CheckSees, ReaderSees}
use Rattle.semantics.proofs.Basics.{cond_true, cond_false}
use Rattle.semantics.proofs.Lists.{all_drop, all_at}
use Rattle.semantics.proofs.Calls.{accepted}
use Rattle.semantics.proofs.Encoding.{refused≢good}
use Rattle.semantics.proofs.Acceptance.{accepted_result, then_result, needs_result}
use Rattle.semantics.proofs.Refusals.{reader_within}
use Rattle.semantics.proofs.Blocks.{word_back, reader_is}

twice : (n m : ℕ) → 2 ^ suc n * m ≡ 2 * (2 ^ n * m)
twice n m = omega (arith, ap (λ (k : ℕ). k * m) (pow-suc 2 n))

-- An odd factor has no zero but 0 modulo a power of 2.
odd_zero : (n i x q : ℕ) → (2 * i + 1) * x ≡ 2 ^ n * q → (r : ℕ) × (x ≡ 2 ^ n * r)
odd_zero zero i x q e = (x, omega arith)
odd_zero (suc n) i x q e = go (odd_zero n i (x / 2) q (omega (arith, twice n q, ap (λ (k : ℕ). (2 * i + 1) * k) half)))
  where
    half : x ≡ 2 * (x / 2)
    half = omega (arith, twice n q)

    go : (r : ℕ) × (x / 2 ≡ 2 ^ n * r) → (r : ℕ) × (x ≡ 2 ^ suc n * r)
    go (r, d) = (r, omega (arith, half, d, twice n r))

-- What a sum grows by, where it is the same modulo 2^32.
grows : (s t d : ℕ) → t ≡ s + d → s % 4294967296 ≡ t % 4294967296 → d ≡ 2 ^ 32 * (d / 4294967296)
grows s t d e m = omega arith

-- Where that is an odd weight times what a word grows by, the word is the same.
same_above : (i x y s t : ℕ) → x ≤ y → t + (2 * i + 1) * x ≡ s + (2 * i + 1) * y → s % 4294967296 ≡ t % 4294967296 → y < 4294967296 → x ≡ y
same_above i x y s t l e m h = go (odd_zero 32 i d ((2 * i + 1) * d / 4294967296) (grows s t ((2 * i + 1) * d) more m))
  where
    d : ℕ
    d = y - x

    more : t ≡ s + (2 * i + 1) * (y - x)
    more = omega (arith, ap (λ (n : ℕ). (2 * i + 1) * n) (add-sub_of_le l))

    go : (r : ℕ) × (d ≡ 2 ^ 32 * r) → x ≡ y
    go (r, f) = omega arith

same_word : (i x y s t : ℕ) → t + (2 * i + 1) * x ≡ s + (2 * i + 1) * y → s % 4294967296 ≡ t % 4294967296 → x < 4294967296 → y < 4294967296 → x ≡ y
same_word i x y s t e m h k = go (leb x y) refl
  where
    go : (b : Bool) → leb x y ≡ b → x ≡ y
    go true b = same_above i x y s t (leb-true x y b) e m k
    go false b = sym (same_above i y x t s (omega (arith, leb-false x y b)) (sym e) (sym m) h)

-- The words of bytes, one by one.
word_bytes_lem : (j : ℕ) (bs : List ℕ)
    → word_in j bs ≡ get_or bs (4 * j + 0) 0 + 256 * get_or bs (4 * j + 1) 0 + 65536 * get_or bs (4 * j + 2) 0 + 16777216 * get_or bs (4 * j + 3) 0
unfolding word_in word_at
word_bytes_lem j bs = rw (get_or-drop (4 * j) bs 0 0, get_or-drop (4 * j) bs 1 0, get_or-drop (4 * j) bs 2 0, get_or-drop (4 * j) bs 3 0)

word_small : (j : ℕ) (bs : List ℕ) → Bytes bs → word_in j bs < 4294967296
word_small j bs h =
    let b : (k : ℕ) → get_or bs k 0 < 256 = λ k. all_at (λ (b : ℕ). b < 256) bs k 0 h (omega arith) in
    omega (arith, word_bytes_lem j bs, b (4 * j + 0), b (4 * j + 1), b (4 * j + 2), b (4 * j + 3))

words_length : (n : ℕ) (bs : List ℕ) → length (words_of n bs) ≡ n
unfolding words_of
words_length zero bs = refl
words_length (suc n) bs = ap suc (words_length n (drop 4 bs))

words_at : (n j : ℕ) (bs : List ℕ) → j < n → get_or (words_of n bs) j 0 ≡ word_in j bs
unfolding words_of word_in
words_at zero j bs h = absurd (omega arith)
words_at (suc n) zero bs h = refl
words_at (suc n) (suc j) bs h =
    let e : 4 + 4 * j ≡ 4 * suc j = omega arith in
    words_at n j (drop 4 bs) (omega arith) ∙ ap word_at (drop-drop (4 * j) 4 bs ∙ ap (λ (k : ℕ). drop k bs) e)

-- The words of the block that starts behind k others.
word_in_block : (k i : ℕ) (bs : List ℕ) → word_in i (drop (512 * k) bs) ≡ word_in (128 * k + i) bs
unfolding word_in
word_in_block k i bs =
    let e : 512 * k + 4 * i ≡ 4 * (128 * k + i) = omega arith in
    ap word_at (drop-drop (4 * i) (512 * k) bs ∙ ap (λ (n : ℕ). drop n bs) e)

-- Bytes with another word.
module _ (j w : ℕ) (bs : List ℕ) (l : 4 * j + 4 ≤ length bs) where
  with_length : length (with_word j w bs) ≡ length bs
  unfolding with_word word_bytes
  with_length = put_length bs (4 * j) (word_bytes w) l

  with_same : w < 4294967296 → word_in j (with_word j w bs) ≡ w
  unfolding word_in with_word word_bytes
  with_same h = ap word_at (drop_at (take (4 * j) bs) _ (4 * j) (length-take-le (4 * j) bs (omega arith))) ∙ word_back w (drop (4 * j + 4) bs) h

  byte_other : (i r : ℕ) → (i ≡ j → ⊥) → r < 4 → get_or (with_word j w bs) (4 * i + r) 0 ≡ get_or bs (4 * i + r) 0
  unfolding with_word word_bytes
  byte_other i r n h = go (ltb i j) refl
    where
      go : (b : Bool) → ltb i j ≡ b → get_or (put bs (4 * j) (word_bytes w)) (4 * i + r) 0 ≡ get_or bs (4 * i + r) 0
      go true b = get_or_before bs (4 * j) (word_bytes w) l (4 * i + r) (omega (arith, ltb-true i j b))
      go false b = get_or_after bs (4 * j) (word_bytes w) l (4 * i + r) (omega (arith, ltb-false i j b))

  with_other : (i : ℕ) → (i ≡ j → ⊥) → word_in i (with_word j w bs) ≡ word_in i bs
  with_other i n =
      word_bytes_lem i (with_word j w bs)
      ∙ rw (byte_other i 0 n (omega arith), byte_other i 1 n (omega arith), byte_other i 2 n (omega arith), byte_other i 3 n (omega arith))
      (sym (word_bytes_lem i bs))

-- The check of a block looks at its 128 words alone.
Alike : List ℕ → List ℕ → Type 0
Alike bs bs' = (i : ℕ) → i < 128 → word_in i bs' ≡ word_in i bs

alike_words : (bs bs' : List ℕ) → ((i : ℕ) → i < 127 → word_in i bs' ≡ word_in i bs) → words_of 127 bs' ≡ words_of 127 bs
alike_words bs bs' a =
    ext_get_or 0 (words_of 127 bs') (words_of 127 bs) (words_length 127 bs' ∙ sym (words_length 127 bs))
    (λ i h. let l : i < 127 = omega (arith, words_length 127 bs') in words_at 127 i bs' l ∙ a i l ∙ sym (words_at 127 i bs l))

good_is : (number : ℕ) (bs : List ℕ) → block_good number bs ≡ eqb (word_in 127 bs) (check_word number (words_of 127 bs))
unfolding block_good word_in
good_is number bs = refl

alike_good : (number : ℕ) (bs bs' : List ℕ) → Alike bs bs' → block_good number bs' ≡ block_good number bs
unfolding Alike
alike_good number bs bs' a =
    good_is number bs'
    ∙ (λ i. eqb (a 127 (omega arith) i) (check_word number (alike_words bs bs' (λ i h. a i (omega arith)) i)))
    ∙ sym (good_is number bs)

-- One word is altered: word j is w, the others are as they were.
record Altered (j w : ℕ) (bs bs' : List ℕ) : Type 0 where
  pub here : word_in j bs' ≡ w
  pub others : (i : ℕ) → i < 128 → (i ≡ j → ⊥) → word_in i bs' ≡ word_in i bs

-- The sum of two lists of words that differ in one word.
sum_differs : (i j : ℕ) (us vs : List ℕ) → length us ≡ length vs → j < length us → ((k : ℕ) → k < length us → (k ≡ j → ⊥) → get_or vs k 0 ≡ get_or us k 0)
    → weighted i vs + (2 * (i + j) + 1) * get_or us j 0 ≡ weighted i us + (2 * (i + j) + 1) * get_or vs j 0
unfolding weighted
sum_differs i j [] vs l h o = absurd (omega arith)
sum_differs i j (u ∷ us) [] l h o = absurd (omega arith)
sum_differs i zero (u ∷ us) (v ∷ vs) l h o =
    let e : vs ≡ us = ext_get_or 0 vs us (omega arith) (λ k m. o (suc k) (omega arith) (λ z. omega arith)) in
    omega (arith, ap (weighted (suc i)) e)
sum_differs i (suc j) (u ∷ us) (v ∷ vs) l h o =
    let e : v ≡ u = o 0 (omega arith) (λ z. omega arith) in
    let ih = sum_differs (suc i) j us vs (omega arith) (omega arith) (λ k m n. o (suc k) (omega arith) (λ z. n (omega arith))) in
    let n : suc i + j ≡ i + suc j = omega arith in
    omega (arith, ih, ap (λ (x : ℕ). (2 * i + 1) * x) e, ap (λ (m : ℕ). m * get_or us j 0) n, ap (λ (m : ℕ). m * get_or vs j 0) n)

abbrev sum_of127 : List ℕ → ℕ
sum_of127 bs = weighted 0 (words_of 127 bs)

sum_altered : (j w : ℕ) (bs bs' : List ℕ) → j < 127 → Altered j w bs bs'
    → sum_of127 bs' + (2 * j + 1) * word_in j bs ≡ sum_of127 bs + (2 * j + 1) * w
sum_altered j w bs bs' h a =
    let us : List ℕ = words_of 127 bs in
    let vs : List ℕ = words_of 127 bs' in
    let l : length us ≡ 127 = words_length 127 bs in
    let x : get_or us j 0 ≡ word_in j bs = words_at 127 j bs h in
    let y : get_or vs j 0 ≡ w = words_at 127 j bs' h ∙ a.here in
    let z : 0 + j ≡ j = omega arith in
    let s = sum_differs 0 j us vs (l ∙ sym (words_length 127 bs')) (omega (arith, l)) (others l) in
    (λ i. weighted 0 vs + (2 * sym z i + 1) * sym x i) ∙ s ∙ (λ i. weighted 0 us + (2 * z i + 1) * y i)
  where
    others : length (words_of 127 bs) ≡ 127 → (k : ℕ) → k < length (words_of 127 bs) → (k ≡ j → ⊥) → get_or (words_of 127 bs') k 0 ≡ get_or (words_of 127 bs) k 0
    others l k m n =
        let o : k < 127 = omega arith in
        words_at 127 k bs' o ∙ a.others k (omega arith) n ∙ sym (words_at 127 k bs o)

-- The check word of a good block.
good_word : (number : ℕ) (bs : List ℕ) → block_good number bs ≡ true → word_in 127 bs ≡ (sum_of127 bs + number) % 4294967296
unfolding check_word
good_word number bs g = eqb-true _ _ (sym (good_is number bs) ∙ g)

-- One word altered.
module _ (number j w : ℕ) (bs bs' : List ℕ) (b : Bytes bs) (g : block_good number bs ≡ true) (l : j < 128) (o : OtherWord j w bs) (a : Altered j w bs bs') where
  word_altered : j < 127 → word_in 127 bs' ≡ (sum_of127 bs' + number) % 4294967296 → ⊥
  word_altered h e =
      let m : (sum_of127 bs + number) % 4294967296 ≡ (sum_of127 bs' + number) % 4294967296 =
      sym (good_word number bs g) ∙ sym (a.others 127 (omega arith) (λ z. omega arith)) ∙ e in
      let s : sum_of127 bs' + number + (2 * j + 1) * word_in j bs ≡ sum_of127 bs + number + (2 * j + 1) * w = omega (arith, sum_altered j w bs bs' h a) in
      o.1 (sym (same_word j (word_in j bs) w (sum_of127 bs + number) (sum_of127 bs' + number) s m (word_small j bs b) o.0))

  check_altered : 127 ≤ j → word_in 127 bs' ≡ (sum_of127 bs' + number) % 4294967296 → ⊥
  check_altered h e =
      let z : j ≡ 127 = omega arith in
      let q : words_of 127 bs' ≡ words_of 127 bs = alike_words bs bs' (λ i m. a.others i (omega arith) (λ n. omega arith)) in
      o.1
      (sym a.here ∙ ap (λ (n : ℕ). word_in n bs') z ∙ e ∙ ap (λ (ws : List ℕ). (weighted 0 ws + number) % 4294967296) q
      ∙ sym (good_word number bs g) ∙ ap (λ (n : ℕ). word_in n bs) (sym z))

  good_altered : block_good number bs' ≡ false
  unfolding check_word
  good_altered = good_is number bs' ∙ ne_eqb _ _ (go (ltb j 127) refl)
    where
      go : (t : Bool) → ltb j 127 ≡ t → word_in 127 bs' ≡ (sum_of127 bs' + number) % 4294967296 → ⊥
      go true t = word_altered (ltb-true j 127 t)
      go false t = check_altered (ltb-false j 127 t)

halves_apart : (a b x y : ℕ) → 2147483648 * a + x ≡ 2147483648 * b + y → x < 4294967296 → y < 4294967296
    → (x ≡ y → ⊥) → (x ≡ y + 2147483648 → ⊥) → (y ≡ x + 2147483648 → ⊥) → ⊥
halves_apart a b x y e h k f g i = omega arith

-- Two neighbours exchanged change the sum by twice their difference, which is 0 modulo 2^32 exactly if they are equal or differ by 2^31.
twice_same : (x y s t : ℕ) → t + 2 * y ≡ s + 2 * x → x < 4294967296 → y < 4294967296 → eqb (s % 4294967296) (t % 4294967296) ≡ unseen x y
unfolding unseen
twice_same x y s t e h k = go (eqb x y) (eqb x (y + 2147483648)) (eqb y (x + 2147483648)) refl refl refl
  where
    same : s % 4294967296 ≡ t % 4294967296 → eqb (s % 4294967296) (t % 4294967296) ≡ true
    same = eq-eqb (s % 4294967296) (t % 4294967296)

    go : (a b c : Bool) → eqb x y ≡ a → eqb x (y + 2147483648) ≡ b → eqb y (x + 2147483648) ≡ c
        → eqb (s % 4294967296) (t % 4294967296) ≡ a || b || c
    go true b c p q r = same (omega (arith, eqb-true x y p))
    go false true c p q r = same (omega (arith, eqb-true x (y + 2147483648) q))
    go false false true p q r = same (omega (arith, eqb-true y (x + 2147483648) r))
    go false false false p q r = ne_eqb _ _ (λ m. apart (eqb-false x y p) (eqb-false x (y + 2147483648) q) (eqb-false y (x + 2147483648) r) m)
      where
        apart : (x ≡ y → ⊥) → (x ≡ y + 2147483648 → ⊥) → (y ≡ x + 2147483648 → ⊥) → s % 4294967296 ≡ t % 4294967296 → ⊥
        apart f g i m = halves_apart (s / 4294967296) (t / 4294967296) x y (omega arith) h k f g i

-- Two neighbours exchanged, one after the other.
module _ (number i : ℕ) (bs mid bs' : List ℕ) (b : Bytes bs) (g : block_good number bs ≡ true) (l : i ≤ 125)
    (a : Altered i (word_in (suc i) bs) bs mid) (a' : Altered (suc i) (word_in i bs) mid bs') where
  abbrev x : ℕ
  x = word_in i bs

  abbrev y : ℕ
  y = word_in (suc i) bs

  sum_swapped : sum_of127 bs' + number + 2 * y ≡ sum_of127 bs + number + 2 * x
  sum_swapped =
      let e : word_in (suc i) mid ≡ y = a.others (suc i) (omega arith) (λ z. omega arith) in
      let p : sum_of127 mid + (2 * i + 1) * x ≡ sum_of127 bs + (2 * i + 1) * y = sum_altered i y bs mid (omega arith) a in
      let q : sum_of127 bs' + (2 * suc i + 1) * word_in (suc i) mid ≡ sum_of127 mid + (2 * suc i + 1) * x = sum_altered (suc i) x mid bs' (omega arith) a' in
      omega (arith, p, q, ap (λ (n : ℕ). (2 * suc i + 1) * n) e)

  check_kept : word_in 127 bs' ≡ word_in 127 bs
  check_kept = a'.others 127 (omega arith) (λ z. omega arith) ∙ a.others 127 (omega arith) (λ z. omega arith)

  good_swapped : block_good number bs' ≡ unseen x y
  unfolding check_word
  good_swapped =
      good_is number bs'
      ∙ ap (λ (n : ℕ). eqb n ((sum_of127 bs' + number) % 4294967296)) (check_kept ∙ good_word number bs g)
      ∙ twice_same x y (sum_of127 bs + number) (sum_of127 bs' + number) sum_swapped (word_small i bs b) (word_small (suc i) bs b)

-- The block check alone, of 512 bytes.
pub check_says : (bs : List ℕ) (number : ℕ) {t : Bool} → length bs ≡ 512 → block_good number bs ≡ t → block_check_call bs number ≡ says t
unfolding block_check_call block_check says and_then
check_says bs number l g = rw (eq-eqb (length bs) 512 l, g)

says_yes : (bs : List ℕ) (number : ℕ) → block_check_call bs number ≡ says true → (length bs ≡ 512) × (block_good number bs ≡ true)
unfolding block_check_call block_check says and_then outcome result
says_yes bs number e = go (eqb (length bs) 512) (block_good number bs) refl refl e
  where
    answer : Bool → Bool → Outcome
    answer t g = outcome [] [] (and_then (cond t (good g) (refused 1 0)) (λ (yes' : Bool). result [] (cond yes' 1 0 ∷ [])))

    go : (t g : Bool) → eqb (length bs) 512 ≡ t → block_good number bs ≡ g → answer t g ≡ says true → (length bs ≡ 512) × (block_good number bs ≡ true)
    go true true p q e = (eqb-true (length bs) 512 p, q)
    go true false p q e = absurd (omega (arith, ap (λ (o : Outcome). get_or o.reply.numbers 0 0) e))
    go false g p q e = absurd (omega (arith, ap (λ (o : Outcome). o.reply.number) e))

-- The blocks that are read, one by one: all are good, or one is the first that is not.
block_at : (n : ℕ) (bs : List ℕ) → drop (512 * n) (drop 512 bs) ≡ drop (512 * suc n) bs
block_at n bs =
    let e : 512 + 512 * n ≡ 512 * suc n = omega arith in
    drop-drop (512 * n) 512 bs ∙ ap (λ (m : ℕ). drop m bs) e

good_next : (number k : ℕ) (bs : List ℕ) → block_good (suc (suc number + k)) (drop (512 * k) (drop 512 bs)) ≡ block_good (suc (number + suc k)) (drop (512 * suc k) bs)
good_next number k bs =
    let e : suc (suc number + k) ≡ suc (number + suc k) = omega arith in
    λ i. block_good (e i) (block_at k bs i)

good_first : (number : ℕ) (bs : List ℕ) → block_good (suc (number + 0)) (drop (512 * 0) bs) ≡ block_good (suc number) bs
good_first number bs = ap (λ (n : ℕ). block_good (suc n) bs) (add-zero number)

blocks_read : (n number : ℕ) (bs ws : List ℕ) → read_blocks n number bs ≡ good ws → (k : ℕ) → k < n → block_good (suc (number + k)) (drop (512 * k) bs) ≡ true
unfolding read_blocks and_then
blocks_read zero number bs ws e k h = absurd (omega arith)
blocks_read (suc n) number bs ws e k h =
    go (block_good (suc number) bs) refl e (λ us q k h. sym (good_next number k bs) ∙ blocks_read n (suc number) (drop 512 bs) us q k h) k h
  where
    Good : ℕ → Type 0
    Good k = block_good (suc (number + k)) (drop (512 * k) bs) ≡ true

    rest : Answer (List ℕ)
    rest = read_blocks n (suc number) (drop 512 bs)

    go : (t : Bool) → block_good (suc number) bs ≡ t → cond t (and_then rest (λ ws. good (words_of 127 bs ++ ws))) (refused 2 number) ≡ good ws
        → ((us : List ℕ) → rest ≡ good us → (k : ℕ) → k < n → Good (suc k)) → (k : ℕ) → k < suc n → Good k
    go false p e ih k h = refused≢good e
    go true p e ih zero h = good_first number bs ∙ p
    go true p e ih (suc k) h = let a = then_result rest (λ ws. good (words_of 127 bs ++ ws)) ws e in ih a.0 a.1 k (omega arith)

blocks_good : (n number : ℕ) (bs : List ℕ) → ((k : ℕ) → k < n → block_good (suc (number + k)) (drop (512 * k) bs) ≡ true)
    → (ws : List ℕ) × (read_blocks n number bs ≡ good ws)
unfolding read_blocks and_then
blocks_good zero number bs g = ([], refl)
blocks_good (suc n) number bs g = go (blocks_good n (suc number) (drop 512 bs) (λ k h. good_next number k bs ∙ g (suc k) (omega arith)))
  where
    go : (ws : List ℕ) × (read_blocks n (suc number) (drop 512 bs) ≡ good ws) → (ws : List ℕ) × (read_blocks (suc n) number bs ≡ good ws)
    go (ws, e) = (
      words_of 127 bs ++ ws,
      cond_true (block_good (suc number) bs) _ _ (sym (good_first number bs) ∙ g 0 (omega arith))
          ∙ ap (λ (a : Answer (List ℕ)). and_then a (λ ws. good (words_of 127 bs ++ ws))) e,
    )

blocks_bad : (n number k : ℕ) (bs : List ℕ) → k < n → ((i : ℕ) → i < k → block_good (suc (number + i)) (drop (512 * i) bs) ≡ true)
    → block_good (suc (number + k)) (drop (512 * k) bs) ≡ false → read_blocks n number bs ≡ refused 2 (number + k)
unfolding read_blocks and_then
blocks_bad zero number k bs h g f = absurd (omega arith)
blocks_bad (suc n) number zero bs h g f =
    cond_false (block_good (suc number) bs) _ _ (sym (good_first number bs) ∙ f) ∙ ap (refused 2) (sym (add-zero number))
blocks_bad (suc n) number (suc k) bs h g f =
    let ih = blocks_bad n (suc number) k (drop 512 bs) (omega arith) (λ i l. good_next number i bs ∙ g (suc i) (omega arith)) (good_next number k bs ∙ f) in
    let e : suc number + k ≡ number + suc k = omega arith in
    cond_true (block_good (suc number) bs) _ _ (sym (good_first number bs) ∙ g 0 (omega arith))
    ∙ ap (λ (a : Answer (List ℕ)). and_then a (λ ws. good (words_of 127 bs ++ ws))) ih ∙ ap (refused 2) e

-- The reader, of bytes in whole blocks and with room for their words: accepted if all blocks are good, and what it accepted are such.
module _ (bs : List ℕ) (out : ℕ) where
  abbrev blocks : ℕ
  blocks = length bs / 512

  abbrev read : Answer (List ℕ) → Answer Result
  read a = and_then a (λ ws. result (ws ∷ []) [])

  goods_accepted : bad_length (length bs) ≡ false → 127 * blocks ≤ out → ((k : ℕ) → k < blocks → block_good (suc k) (drop (512 * k) bs) ≡ true)
      → Accepted (reader_call bs (out ∷ []))
  unfolding and_then result
  goods_accepted b r g =
      let a = blocks_good blocks 0 bs (λ k h. ap (λ (m : ℕ). block_good (suc m) (drop (512 * k) bs)) (zero-add k) ∙ g k h) in
      rw (reader_is bs out b r) (accepted [] (out ∷ []) _ (record { outputs = a.0 ∷ []; numbers = [] }) (ap read a.1))

  bad_refused : bad_length (length bs) ≡ false → 127 * blocks ≤ out → (k : ℕ) → k < blocks → ((i : ℕ) → i < k → block_good (suc i) (drop (512 * i) bs) ≡ true)
      → block_good (suc k) (drop (512 * k) bs) ≡ false → reader_call bs (out ∷ []) ≡ outcome [] (out ∷ []) (refused 2 k)
  unfolding and_then
  bad_refused b r k h g f =
      let number : (i : ℕ) → block_good (suc (0 + i)) (drop (512 * i) bs) ≡ block_good (suc i) (drop (512 * i) bs) =
      λ i. ap (λ (m : ℕ). block_good (suc m) (drop (512 * i) bs)) (zero-add i) in
      reader_is bs out b r
      ∙ ap (λ (a : Answer (List ℕ)). outcome [] (out ∷ []) (read a))
      (blocks_bad blocks 0 k bs h (λ i l. number i ∙ g i l) (number k ∙ f) ∙ ap (refused 2) (zero-add k))

  accepted_goods : Accepted (reader_call bs (out ∷ []))
      → (bad_length (length bs) ≡ false) × (127 * blocks ≤ out) × ((k : ℕ) → k < blocks → block_good (suc k) (drop (512 * k) bs) ≡ true)
  unfolding reader_call member
  accepted_goods a = go (bad_length (length bs)) refl r.1
    where
      reads : Answer Result
      reads = needs 15 (127 * blocks) out (read (read_blocks blocks 0 bs))

      r : (r : Result) × (cond (bad_length (length bs)) (refused 1 0) reads ≡ good r)
      r = accepted_result [] (out ∷ []) (1 ∷ 15 ∷ 2 ∷ []) _ refl (reader_within bs out) a

      go : (t : Bool) → bad_length (length bs) ≡ t → cond t (refused 1 0) reads ≡ good r.0
          → (bad_length (length bs) ≡ false) × (127 * blocks ≤ out) × ((k : ℕ) → k < blocks → block_good (suc k) (drop (512 * k) bs) ≡ true)
      go true b e = refused≢good e
      go false b e =
          let m = needs_result 15 (127 * blocks) out (read (read_blocks blocks 0 bs)) r.0 e in
          let t = then_result (read_blocks blocks 0 bs) (λ ws. result (ws ∷ []) []) r.0 m.1 in
          (b, m.0, λ k h. ap (λ (m : ℕ). block_good (suc m) (drop (512 * k) bs)) (sym (zero-add k)) ∙ blocks_read blocks 0 bs t.0 t.1 k h)

-- Bytes in which one word of the block behind k others, word `at` of them all, is altered: that block has it altered, every other block is as it was.
module _ (k j at w : ℕ) (bs : List ℕ) (h : j < 128) (l : 512 * k + 512 ≤ length bs) (e : at ≡ 128 * k + j) where
  abbrev bs' : List ℕ
  bs' = with_word at w bs

  block_altered : w < 4294967296 → Altered j w (drop (512 * k) bs) (drop (512 * k) bs')
  block_altered s = record {
    here = word_in_block k j bs' ∙ ap (λ (m : ℕ). word_in m bs') (sym e) ∙ with_same at w bs (omega arith) s;
    others = λ i m d. word_in_block k i bs' ∙ with_other at w bs (omega arith) (128 * k + i) (λ z. d (omega arith)) ∙ sym (word_in_block k i bs);
  }

  block_alike : (i : ℕ) → (i ≡ k → ⊥) → Alike (drop (512 * i) bs) (drop (512 * i) bs')
  unfolding Alike
  block_alike i d m r = word_in_block i m bs' ∙ with_other at w bs (omega arith) (128 * i + m) (λ z. d (omega arith)) ∙ sym (word_in_block i m bs)

-- What the reader accepted, with block k changed and every other block as it was: the check of block k decides.
module _ (bs bs' : List ℕ) (out k : ℕ) (e : length bs' ≡ length bs) (a : Accepted (reader_call bs (out ∷ []))) (h : k < length bs / 512)
    (same : (i : ℕ) → (i ≡ k → ⊥) → Alike (drop (512 * i) bs) (drop (512 * i) bs')) where
  right : bad_length (length bs') ≡ false
  right = ap bad_length e ∙ (accepted_goods bs out a).0

  room : 127 * (length bs' / 512) ≤ out
  room = rw e (accepted_goods bs out a).1

  kept : (i : ℕ) → i < length bs' / 512 → (i ≡ k → ⊥) → block_good (suc i) (drop (512 * i) bs') ≡ true
  kept i m n = alike_good (suc i) (drop (512 * i) bs) (drop (512 * i) bs') (same i n) ∙ (accepted_goods bs out a).2 i (rw e at m)

  one_bad : block_good (suc k) (drop (512 * k) bs') ≡ false → reader_call bs' (out ∷ []) ≡ outcome [] (out ∷ []) (refused 2 k)
  one_bad f =
      let l : k < length bs' / 512 = rw e h in
      bad_refused bs' out right room k l (λ i m. kept i (omega arith) (λ z. omega arith)) f

  one_good : block_good (suc k) (drop (512 * k) bs') ≡ true → Accepted (reader_call bs' (out ∷ []))
  one_good g = goods_accepted bs' out right room (λ i m. go i m (eqb i k) refl)
    where
      go : (i : ℕ) → i < length bs' / 512 → (t : Bool) → eqb i k ≡ t → block_good (suc i) (drop (512 * i) bs') ≡ true
      go i m true q = let z : i ≡ k = eqb-true i k q in ap (λ (n : ℕ). block_good (suc n) (drop (512 * n) bs')) z ∙ g
      go i m false q = kept i m (eqb-false i k q)

-- What is written are bytes.
word_are_bytes : (w : ℕ) (bs : List ℕ) → Bytes bs → Bytes (word_bytes w ++ bs)
unfolding word_bytes
word_are_bytes w bs h = (omega arith, (omega arith, (omega arith, (omega arith, h))))

words_are_bytes : (ws bs : List ℕ) → Bytes bs → Bytes (flat_map word_bytes ws ++ bs)
unfolding flat_map
words_are_bytes [] bs h = h
words_are_bytes (w ∷ ws) bs h =
    subst Bytes (sym (append_assoc (word_bytes w) (flat_map word_bytes ws) bs)) (word_are_bytes w (flat_map word_bytes ws ++ bs) (words_are_bytes ws bs h))

pub written_bytes : (n number : ℕ) (ws : List ℕ) → Bytes (write_blocks n number ws)
unfolding write_blocks block_bytes
written_bytes zero number ws = tt
written_bytes (suc n) number ws =
    let us : List ℕ = first_words 127 ws in
    subst Bytes (sym (append_assoc (flat_map word_bytes us) (word_bytes (check_word (suc number) us)) _))
    (words_are_bytes us _ (word_are_bytes (check_word (suc number) us) _ (written_bytes n (suc number) (drop 127 ws))))

-- A block under the plain sum.
plain_good : (number : ℕ) (bs : List ℕ) → UnderPlain number bs → block_good number bs ≡ sums_agree number bs
unfolding sums_agree
plain_good number bs u = good_is number bs ∙ ap (λ (n : ℕ). eqb n (check_word number (words_of 127 bs))) u

-- The statements of the block check alone: the block is behind no other.
module _ (bs : List ℕ) (number : ℕ) (b : Bytes bs) (y : block_check_call bs number ≡ says true) where
  long : length bs ≡ 512
  long = (says_yes bs number y).0

  changed : (j w : ℕ) (us : List ℕ) → length us ≡ 512 → j < 128 → w < 4294967296 → Altered j w us (with_word j w us)
  changed j w us l h s = block_altered 0 j j w us h (omega arith) (omega arith) s

  changed_length : (j w : ℕ) (us : List ℕ) → length us ≡ 512 → j < 128 → length (with_word j w us) ≡ 512
  changed_length j w us l h = with_length j w us (omega arith) ∙ l

  altered : (j w : ℕ) → j < 128 → OtherWord j w bs → block_check_call (with_word j w bs) number ≡ says false
  altered j w h o =
      check_says (with_word j w bs) number (changed_length j w bs long h)
      (good_altered number j w bs (with_word j w bs) b (says_yes bs number y).1 h o (changed j w bs long h o.0))

  neighbours : (i : ℕ) → i ≤ 125 → block_check_call (swapped i bs) number ≡ says (unseen (word_in i bs) (word_in (suc i) bs))
  unfolding swapped
  neighbours i h =
      let mid : List ℕ = with_word i (word_in (suc i) bs) bs in
      let m : length mid ≡ 512 = changed_length i (word_in (suc i) bs) bs long (omega arith) in
      check_says (swapped i bs) number (changed_length (suc i) (word_in i bs) mid m (omega arith))
      (good_swapped number i bs mid (swapped i bs) b (says_yes bs number y).1 h
      (changed i (word_in (suc i) bs) bs long (omega arith) (word_small (suc i) bs b))
      (changed (suc i) (word_in i bs) mid m (omega arith) (word_small i bs b)))

pub check_sees : CheckSees
check_sees = record {
  altered = λ bs number j w b y. altered bs number b y j w;
  neighbours = λ bs number i b y. neighbours bs number b y i;
  plain = λ bs number l u. check_says bs number l (plain_good number bs u);
}

-- The statements of the reader.
module _ (bs : List ℕ) (out k : ℕ) (b : Bytes bs) (a : Accepted (reader_call bs (out ∷ []))) (h : k < length bs / 512) where
  abbrev block : List ℕ → List ℕ
  block bs = drop (512 * k) bs

  good_before : block_good (suc k) (block bs) ≡ true
  good_before = (accepted_goods bs out a).2 k h

  block_bytes_lem : Bytes (block bs)
  block_bytes_lem = all_drop (λ (b : ℕ). b < 256) (512 * k) bs b

  whole : 512 * k + 512 ≤ length bs
  whole = omega arith

  reader_altered : (j w : ℕ) → j < 128 → OtherWord (128 * k + j) w bs
      → reader_call (with_word (128 * k + j) w bs) (out ∷ []) ≡ outcome [] (out ∷ []) (refused 2 k)
  reader_altered j w m o =
      let at : ℕ = 128 * k + j in
      one_bad bs (with_word at w bs) out k (with_length at w bs (omega (arith, whole))) a h (block_alike k j at w bs m whole refl)
      (good_altered (suc k) j w (block bs) (block (with_word at w bs)) block_bytes_lem good_before m
      (o.0, λ e. o.1 (e ∙ word_in_block k j bs)) (block_altered k j at w bs m whole refl o.0))

  -- Neighbours i and i + 1 of the block, exchanged one after the other.
  module _ (i : ℕ) (m : i ≤ 125) where
    abbrev j : ℕ
    j = 128 * k + i

    abbrev former : ℕ
    former = word_in j bs

    abbrev latter : ℕ
    latter = word_in (suc j) bs

    abbrev mid : List ℕ
    mid = with_word j latter bs

    next : suc j ≡ 128 * k + suc i
    next = omega arith

    mid_length : length mid ≡ length bs
    mid_length = with_length j latter bs (omega (arith, whole))

    whole_mid : 512 * k + 512 ≤ length mid
    whole_mid = omega (arith, whole, mid_length)

    swapped_length : length (swapped j bs) ≡ length bs
    unfolding swapped
    swapped_length = with_length (suc j) former mid (omega (arith, whole_mid)) ∙ mid_length

    swapped_alike : (l : ℕ) → (l ≡ k → ⊥) → Alike (drop (512 * l) bs) (drop (512 * l) (swapped j bs))
    unfolding swapped Alike
    swapped_alike l d q r =
        block_alike k (suc i) (suc j) former mid (omega arith) whole_mid next l d q r ∙ block_alike k i j latter bs (omega arith) whole refl l d q r

    former_is : former ≡ word_in i (block bs)
    former_is = sym (word_in_block k i bs)

    latter_is : latter ≡ word_in (suc i) (block bs)
    latter_is = ap (λ (l : ℕ). word_in l bs) next ∙ sym (word_in_block k (suc i) bs)

    swapped_good : block_good (suc k) (block (swapped j bs)) ≡ unseen former latter
    unfolding swapped
    swapped_good =
        good_swapped (suc k) i (block bs) (block mid) (block (swapped j bs)) block_bytes_lem good_before m
        (subst (λ (w : ℕ). Altered i w (block bs) (block mid)) latter_is (block_altered k i j latter bs (omega arith) whole refl (word_small (suc j) bs b)))
        (subst (λ (w : ℕ). Altered (suc i) w (block mid) (block (swapped j bs))) former_is
        (block_altered k (suc i) (suc j) former mid (omega arith) whole_mid next (word_small j bs b)))
        ∙ (λ t. unseen (sym former_is t) (sym latter_is t))

    reader_seen : unseen former latter ≡ false → reader_call (swapped j bs) (out ∷ []) ≡ outcome [] (out ∷ []) (refused 2 k)
    reader_seen u = one_bad bs (swapped j bs) out k swapped_length a h swapped_alike (swapped_good ∙ u)

    reader_unseen : unseen former latter ≡ true → Accepted (reader_call (swapped j bs) (out ∷ []))
    reader_unseen u = one_good bs (swapped j bs) out k swapped_length a h swapped_alike (swapped_good ∙ u)

pub reader_sees : ReaderSees
reader_sees = record {
  altered = λ bs out k j w b a h. reader_altered bs out k b a h j w;
  neighbours = λ bs out k i b a h. reader_seen bs out k b a h i;
  neighbours_unseen = λ bs out k i b a h. reader_unseen bs out k b a h i;
  plain = λ bs out k l r h g u f. bad_refused bs out l r k h g (plain_good (suc k) (drop (512 * k) bs) u ∙ f);
  plain_accepted = λ bs out k a h u. sym (plain_good (suc k) (drop (512 * k) bs) u) ∙ (accepted_goods bs out a).2 k h;
  plain_unseen = λ bs out l r u. goods_accepted bs out l r (λ i m. plain_good (suc i) (drop (512 * i) bs) (u i m).0 ∙ (u i m).1);
}
