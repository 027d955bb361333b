-- Laws of words, sums and checks. Assumes nothing.
use mathlib.Core.Path.{◌≡◌, refl, sym, ap, ◌∙◌}
use mathlib.Core.Bool.{Bool, true, false}
use mathlib.Core.List.{List, [], ◌∷◌}
use Prim.Native.Nat.{ℕ, suc, ◌+◌, ◌*◌, ◌-◌, ◌%◌, ◌≤◌, ◌<◌}
use native.Mathlib.Omega.{arith}
use native.Mathlib.Nat.{add-zero, sub-zero}
use native.Mathlib.Numerals.{add-one}
use lib.Dec.{eqb}
use lib.ListN.{length, get_or, drop}
use lib.Seq.{get_or-drop, drop-drop}
use borrow.Author.Tests.{ne_eqb}
use Rattle.semantics.specs.Answer.{and_then}
use Rattle.semantics.specs.Block.{word_at, word_bytes, words_of, weighted, check_word, block_good, block_check}
use Rattle.semantics.specs.Call.{outcome, padded_all, result, block_check_call}
use Rattle.semantics.specs.BlockCheck.{says}
use Rattle.semantics.proofs.BlockCheck.{check_says}
use Rattle.block.specs.declared.words.Column.{Column}
use mir.Syntax.{w32}
use Rattle.std.specs.Prelude.{Ok, Err}
use Rattle.std.specs.Int.{from_le_bytes, to_le_bytes}
use Rattle.answers.specs.declared.Reason.TheVariants.{WrongLength}
use Rattle.block.specs.Checked.{block_outcome}

-- a word by its four bytes
pub word_of : (bs : List ℕ) (at : ℕ)
    → from_le_bytes w32 (get_or bs at 0 ∷ get_or bs (at + 1) 0 ∷ get_or bs (at + 2) 0 ∷ get_or bs (at + 3) 0 ∷ []) ≡ word_at (drop at bs)
unfolding word_at
word_of bs at = rw (get_or-drop at bs 0 0, get_or-drop at bs 1 0, get_or-drop at bs 2 0, get_or-drop at bs 3 0, add-zero) (omega arith)

pub bytes_of : (w : ℕ) → to_le_bytes w32 w ≡ word_bytes w
unfolding word_bytes
bytes_of w = refl

-- the weighted sum of the first m words, without the first n
unfoldable pub rest : (m : ℕ) → List ℕ → (n : ℕ) → ℕ
rest m bs n = weighted n (words_of (m - n) (drop (4 * n) bs))

pub rest_all : (m : ℕ) (bs : List ℕ) → rest m bs 0 ≡ weighted 0 (words_of m bs)
unfolding rest
rest_all m bs = rw sub-zero

-- the word n of them starts at `from`
pub rest_more : (m : ℕ) (bs : List ℕ) (n from : ℕ) {w : ℕ} → n < m → from ≡ 4 * n → w ≡ word_at (drop from bs)
    → (2 * n + 1) * w + rest m bs (n + 1) ≡ rest m bs n
unfolding rest words_of weighted
rest_more m bs n from h q e =
    let l : m - n ≡ suc (m - (n + 1)) = omega arith in
    let k : 4 * n + 4 ≡ 4 * (n + 1) = omega arith in
    rw (l, e, q, drop-drop 4 (4 * n) bs, k, add-one n)

pub rest_none : (m : ℕ) (bs : List ℕ) (n : ℕ) → m ≤ n → rest m bs n ≡ 0
unfolding rest words_of weighted
rest_none m bs n h =
    let l : m - n ≡ 0 = omega arith in
    rw l

-- four words in a row, and the three at the end
module _ (bs : List ℕ) where
  abbrev left : ℕ → ℕ
  left = rest 127 bs

  next : (n from w k : ℕ) → n < 127 → from ≡ 4 * n → w ≡ word_at (drop from bs) → k ≡ n + 1 → (2 * n + 1) * w + left k ≡ left n
  next n from w k h q e z = ap (λ (k : ℕ). (2 * n + 1) * w + left k) z ∙ rest_more 127 bs n from h q e

  pub row_words : (row first : ℕ) {w x y z : ℕ} → row < 31 → first ≡ 16 * row
      → w ≡ word_at (drop first bs) → x ≡ word_at (drop (first + 4) bs) → y ≡ word_at (drop (first + 8) bs) → z ≡ word_at (drop (first + 12) bs)
      → (8 * row + 1) * w + (8 * row + 3) * x + (8 * row + 5) * y + (8 * row + 7) * z + left (4 * (row + 1)) ≡ left (4 * row)
  row_words row first {w} {x} {y} {z} h q e f g i =
      omega (
        arith,
        next (4 * row) first w (4 * row + 1) (omega arith) (omega arith) e refl,
        next (4 * row + 1) (first + 4) x (4 * row + 2) (omega arith) (omega arith) f (omega arith),
        next (4 * row + 2) (first + 8) y (4 * row + 3) (omega arith) (omega arith) g (omega arith),
        next (4 * row + 3) (first + 12) z (4 * (row + 1)) (omega arith) (omega arith) i (omega arith),
      )

  pub last_words : {x y z : ℕ} → x ≡ word_at (drop 496 bs) → y ≡ word_at (drop 500 bs) → z ≡ word_at (drop 504 bs)
      → 249 * x + 251 * y + 253 * z ≡ left 124
  last_words {x} {y} {z} e f g =
      omega (
        arith,
        next 124 496 x 125 (omega arith) (omega arith) e refl,
        next 125 500 y 126 (omega arith) (omega arith) f refl,
        next 126 504 z 127 (omega arith) (omega arith) g refl,
        rest_none 127 bs 127 (omega arith),
      )

-- the four columns behind so many rows: the words in them, with the weights that the next row has, are those words with their own weights and 8 more for
-- each row since, which is what their sums of sums hold
abbrev pub Weighed : (row words left : ℕ) → (a b c d : Column) → Type 0
Weighed row words left a b c d =
    words + 8 * (a.sums + b.sums + c.sums + d.sums)
    ≡ (8 * row + 1) * a.sum + (8 * row + 3) * b.sum + (8 * row + 5) * c.sum + (8 * row + 7) * d.sum + left

-- a column with one word more
abbrev pub Longer : Column → ℕ → Column → Type 0
Longer a w a' = (a'.sum ≡ a.sum + w) × (a'.sums ≡ a.sums + a'.sum)

pub weighed_more : (row words left left' : ℕ) (a b c d a' b' c' d' : Column) (w x y z : ℕ) → Weighed row words left a b c d
    → Longer a w a' → Longer b x b' → Longer c y c' → Longer d z d'
    → (8 * row + 1) * w + (8 * row + 3) * x + (8 * row + 5) * y + (8 * row + 7) * z + left' ≡ left → Weighed (row + 1) words left' a' b' c' d'
weighed_more row words left left' a b c d a' b' c' d' w x y z e f g h i l =
    rw (f.1, g.1, h.1, i.1, f.0, g.0, h.0, i.0) (omega arith)

-- the columns of 31 rows and the three words behind them, with the weights of the last row; and what is left when 8 times the sums of sums is taken from that
module _ (number words row : ℕ) (bs : List ℕ) (a b c d : Column) (x y z : ℕ) (e : Weighed row words (rest 127 bs (4 * row)) a b c d)
    (q : row ≡ 31) (f : 249 * x + 251 * y + 253 * z ≡ rest 127 bs 124) where
  abbrev sums : ℕ
  sums = a.sums + b.sums + c.sums + d.sums

  abbrev last_row : ℕ
  last_row = number + 249 * (a.sum + x) + 251 * (b.sum + y) + 253 * (c.sum + z) + 255 * d.sum

  last_row_is : last_row ≡ number + words + 8 * sums
  last_row_is =
      let w : Weighed 31 words (rest 127 bs 124) a b c d = rw q at e in
      omega (arith, w)

  pub sums_fit : 8 * sums ≤ last_row
  sums_fit = omega (arith, last_row_is)

  pub sums_taken : last_row - 8 * sums ≡ number + words
  sums_taken = omega (arith, last_row_is)

-- the weighted sum of the words and the number, modulo 2 ^ 32
pub summed : (number sum : ℕ) (ws : List ℕ) → sum ≡ number + weighted 0 ws → sum % 4294967296 ≡ check_word number ws
unfolding check_word
summed number sum ws e = ap (λ (x : ℕ). x % 4294967296) (omega arith)

pub good_word : (bs : List ℕ) (number : ℕ) {x y : ℕ} → x ≡ word_at (drop 508 bs) → y ≡ check_word number (words_of 127 bs) → eqb x y ≡ block_good number bs
unfolding block_good
good_word bs number p q = λ i. eqb (p i) (q i)

-- yes or no, or the refusal of a slice that is not of 512 bytes
pub length_right : (number : ℕ) (bs : List ℕ) {t : Bool} → length bs ≡ 512 → t ≡ block_good number bs → block_outcome (Ok t) ≡ block_check_call bs number
unfolding says outcome result padded_all
length_right number bs {t} h e = go t ∙ sym (check_says bs number h (sym e))
  where
    go : (t : Bool) → block_outcome (Ok t) ≡ says t
    go true = refl
    go false = refl

pub length_wrong : (number : ℕ) (bs : List ℕ) → (length bs ≡ 512 → ⊥) → block_outcome (Err (record { reason = WrongLength; place = 0 })) ≡ block_check_call bs number
unfolding block_check_call outcome and_then result padded_all block_check
length_wrong number bs h = rw (ne_eqb (length bs) 512 h)
