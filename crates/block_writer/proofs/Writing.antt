-- Laws of writing blocks: a word, the words of a block, a block, and block by block.
use mathlib.Core.Path.{◌≡◌, refl, sym, ◌∙◌, ap, subst}
use mathlib.Core.Bool.{Bool, true, false}
use mathlib.Core.List.{List, [], ◌∷◌, ◌++◌, flat_map, append_assoc, append-nil}
use Prim.Native.Nat.{ℕ, zero, suc, min, ◌+◌, ◌*◌, ◌-◌, ◌/◌, ◌≤◌, ◌<◌}
use native.Mathlib.Omega.{arith}
use native.Mathlib.Numerals.{add-one}
use lib.ListN.{length, get_or, take, drop, replicate, take-append-drop}
use lib.Dec.{lit<, ltb}
use lib.Seq.{drop-drop, take_all}
use Rattle.std.proofs.lemmas.List.{take_more}
use borrow.Author.Tests.{ltb-true, ltb-false}
use Rattle.slices.proofs.Lists.{flat_append}
use Rattle.semantics.specs.Answer.{good}
use Rattle.semantics.specs.Sheet.{Sheet, encode, length_of}
use Rattle.semantics.specs.Check.{check}
use Rattle.semantics.specs.Block.{word_bytes, words_of, check_word, first_words, block_bytes, write_blocks, blocks_for}
use Rattle.semantics.proofs.Sorting.{all_append}
use Rattle.semantics.proofs.Blocks.{Words, words_back, first_length, written_length}
use Rattle.sheet.specs.declared.Head.{Head}
use Rattle.sheet.proofs.Answers.{head_of, words_found}

-- Words below 2 ^ 32, of which the first i are written to the front.
pub record WordsPut (ws o o₀ : List ℕ) (i : ℕ) : Type 0 where
  pub some : i ≤ length ws
  pub kept : length o ≡ length o₀
  pub front : take (4 * i) o ≡ flat_map word_bytes (take i ws)
  pub words : Words (take i ws)

pub put_none : (ws o : List ℕ) → WordsPut ws o o 0
unfolding flat_map
put_none ws o = record { some = omega arith; kept = refl; front = refl; words = tt }

module _ {ws o o₀ : List ℕ} {i : ℕ} (r : WordsPut ws o o₀ i) where
  pub put_more : (o' : List ℕ) → i < length ws → get_or ws i 0 < 4294967296 → length o' ≡ length o
      → take (4 * i + 4) o' ≡ take (4 * i) o ++ word_bytes (get_or ws i 0) → WordsPut ws o' o₀ (i + 1)
  unfolding flat_map
  put_more o' h b l f =
      let w : ℕ = get_or ws i 0 in
      let us : List ℕ = take i ws in
      let j : 4 * (i + 1) ≡ 4 * i + 4 = omega arith in
      let s : take (i + 1) ws ≡ us ++ (w ∷ []) = take_more ws i 0 h in
      record {
        some = omega arith;
        kept = l ∙ r.kept;
        front =
            ap (λ (m : ℕ). take m o') j ∙ f ∙ ap (λ (u : List ℕ). u ++ word_bytes w) r.front
            ∙ ap (λ (u : List ℕ). flat_map word_bytes us ++ u) (sym (append-nil (word_bytes w)))
            ∙ sym (flat_append word_bytes us (w ∷ [])) ∙ ap (flat_map word_bytes) (sym s);
        words = subst Words (sym s) (all_append (λ (w : ℕ). w < 4294967296) us (w ∷ []) r.words (b, tt));
      }

-- As many as there are.
take_some : (ws : List ℕ) (n m : ℕ) → n ≡ min (length ws) m → take n ws ≡ take m ws
take_some ws n m e = go (ltb (length ws) m) refl
  where
    go : (b : Bool) → ltb (length ws) m ≡ b → take n ws ≡ take m ws
    go true t =
        let h = ltb-true (length ws) m t in
        take_all n ws (omega arith) ∙ sym (take_all m ws (omega arith))
    go false t =
        let h = ltb-false (length ws) m t in
        let k : n ≡ m = omega arith in
        ap (λ (j : ℕ). take j ws) k

-- Zeros as bytes.
zero_bytes : (n : ℕ) → flat_map word_bytes (replicate n 0) ≡ replicate (4 * n) 0
unfolding flat_map word_bytes
zero_bytes zero = refl
zero_bytes (suc n) =
    let j : suc (suc (suc (suc (4 * n)))) ≡ 4 * suc n = omega arith in
    ap (λ (u : List ℕ). 0 ∷ 0 ∷ 0 ∷ 0 ∷ u) (zero_bytes n) ∙ ap (λ (k : ℕ). replicate k 0) j

zero_words : (n : ℕ) → Words (replicate n 0)
zero_words zero = tt
zero_words (suc n) = (lit< tt, zero_words n)

-- The first 127 words are written, and zeros behind them; read back they are the same.
pub put_all : {ws o o₀ : List ℕ} {n : ℕ} → WordsPut ws o o₀ n → n ≡ min (length ws) 127 → (o' : List ℕ) → take 508 o' ≡ take (4 * n) o ++ replicate (508 - 4 * n) 0
    → (take 508 o' ≡ flat_map word_bytes (first_words 127 ws)) × (words_of 127 o' ≡ first_words 127 ws)
unfolding first_words
put_all {ws} {o} {o₀} {n} r e o' f =
    let us : List ℕ = take 127 ws ++ replicate (127 - length ws) 0 in
    let t = take_some ws n 127 e in
    let z : 508 - 4 * n ≡ 4 * (127 - length ws) = omega arith in
    let g : take 508 o' ≡ flat_map word_bytes us =
    f ∙ (λ i. (r.front ∙ ap (flat_map word_bytes) t) i ++ (ap (λ (k : ℕ). replicate k 0) z ∙ sym (zero_bytes (127 - length ws))) i)
    ∙ sym (flat_append word_bytes (take 127 ws) (replicate (127 - length ws) 0)) in
    let w : Words us = all_append (λ (w : ℕ). w < 4294967296) (take 127 ws) (replicate (127 - length ws) 0) (subst Words t r.words) (zero_words (127 - length ws)) in
    let D : List ℕ = drop 508 o' in
    let d : o' ≡ flat_map word_bytes us ++ D = sym (take-append-drop 508 o') ∙ ap (λ (u : List ℕ). u ++ D) g in
    (g, ap (words_of 127) d ∙ ap (λ (n : ℕ). words_of n (flat_map word_bytes us ++ D)) (sym (first_length 127 ws)) ∙ words_back us D w)

-- The words of a block and its check word.
pub block_put : (ws o₁ o₂ : List ℕ) (number : ℕ) {check : ℕ} → take 508 o₁ ≡ flat_map word_bytes ws → words_of 127 o₁ ≡ ws
    → check ≡ check_word number (words_of 127 o₁) → length o₂ ≡ 512 → take (508 + 4) o₂ ≡ take 508 o₁ ++ word_bytes check → o₂ ≡ block_bytes number ws
unfolding block_bytes
block_put ws o₁ o₂ number f b e h g = sym (take_all (508 + 4) o₂ (omega (arith, h))) ∙ g ∙ (λ i. f i ++ word_bytes ((e ∙ ap (check_word number) b) i))

-- n blocks, of which k are written.
pub record BlocksPut (ws o o₀ : List ℕ) (n k : ℕ) : Type 0 where
  pub some : k ≤ n
  pub kept : length o ≡ length o₀
  pub follow : take (512 * k) o ++ write_blocks (n - k) k (drop (127 * k) ws) ≡ write_blocks n 0 ws

module _ {ws o o₀ : List ℕ} {n k : ℕ} (r : BlocksPut ws o o₀ n k) where
  pub one_put : (o' : List ℕ) → k < n → length o' ≡ length o
      → take (512 * k + 512) o' ≡ take (512 * k) o ++ block_bytes (k + 1) (first_words 127 (drop (127 * k) ws)) → BlocksPut ws o' o₀ n (k + 1)
  unfolding write_blocks
  one_put o' h l f =
      let us : List ℕ = drop (127 * k) ws in
      let left : n - k ≡ suc (n - (k + 1)) = omega arith in
      let i : 127 * (k + 1) ≡ 127 * k + 127 = omega arith in
      let j : 512 * (k + 1) ≡ 512 * k + 512 = omega arith in
      let d : drop (127 * (k + 1)) ws ≡ drop 127 us = ap (λ (m : ℕ). drop m ws) i ∙ sym (drop-drop 127 (127 * k) ws) in
      record {
        some = omega arith;
        kept = l ∙ r.kept;
        follow =
            ap (λ (u : List ℕ). u ++ write_blocks (n - (k + 1)) (k + 1) (drop (127 * (k + 1)) ws)) (ap (λ (m : ℕ). take m o') j ∙ f)
            ∙ append_assoc (take (512 * k) o) _ _
            ∙ (λ x. take (512 * k) o ++ (block_bytes (add-one k x) (first_words 127 us) ++ write_blocks (n - (k + 1)) (add-one k x) (d x)))
            ∙ ap (λ (m : ℕ). take (512 * k) o ++ write_blocks m k us) (sym left) ∙ r.follow;
      }

  pub all_put : n ≤ k → take (512 * n) o ≡ write_blocks n 0 ws
  unfolding write_blocks
  all_put h =
      let e : k ≡ n = omega arith in
      let z : n - k ≡ 0 = omega arith in
      ap (λ (m : ℕ). take (512 * m) o) (sym e) ∙ sym (append-nil (take (512 * k) o))
      ∙ ap (λ (m : ℕ). take (512 * k) o ++ write_blocks m k (drop (127 * k) ws)) (sym z) ∙ r.follow

-- The blocks of a sheet that was found.
abbrev pub sheet_bytes : Sheet → ℕ
sheet_bytes t = 512 * blocks_for (length_of t)

abbrev pub sheet_blocks : Sheet → List ℕ
sheet_blocks t = write_blocks (blocks_for (length_of t)) 0 (encode t)

module _ (p : ℕ) (ws : List ℕ) {t : Sheet} (e : check p ws ≡ good t) {h : Head} (q : h ≡ head_of t) where
  blocks_are : (h.words + 126) / 127 ≡ blocks_for (length_of t)
  unfolding blocks_for
  blocks_are = ap (λ (k : Head). (k.words + 126) / 127) q

  pub bytes_are : 512 * ((h.words + 126) / 127) ≡ sheet_bytes t
  bytes_are = ap (λ (n : ℕ). 512 * n) blocks_are

  pub made_are : write_blocks ((h.words + 126) / 127) 0 (take h.words ws) ≡ sheet_blocks t
  made_are = λ i. write_blocks (blocks_are i) 0 (words_found p ws e q i)

  pub made_length : 512 * ((h.words + 126) / 127) ≡ length (sheet_blocks t)
  made_length = bytes_are ∙ sym (written_length (blocks_for (length_of t)) 0 (encode t))
