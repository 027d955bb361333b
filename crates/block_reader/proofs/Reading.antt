-- Laws of reading blocks: word by word, and block by block.
use mathlib.Core.Path.{◌≡◌, refl, sym, ◌∙◌, ap}
use mathlib.Core.Bool.{Bool, true, false, true≢false, not, ◌||◌}
use mathlib.Core.List.{List, [], ◌∷◌, ◌++◌, append_assoc, append-nil}
use Prim.Native.Nat.{ℕ, zero, suc, ◌+◌, ◌*◌, ◌-◌, ◌/◌, ◌%◌, ◌≤◌, ◌<◌}
use native.Mathlib.Omega.{arith}
use native.Mathlib.Numerals.{add-one}
use lib.Dec.{eqb, ltb}
use lib.ListN.{length, take, drop, set, length-set}
use lib.Seq.{drop-drop, take_all, length-take-le}
use borrow.Author.Tests.{ltb-false}
use Rattle.semantics.specs.Answer.{Answer, good, refused, and_then}
use Rattle.semantics.specs.Block.{word_at, words_of, block_good, bad_length, read_blocks}
use Rattle.semantics.specs.Call.{Result as Made, Outcome, outcome, needs, result, reader_call}
use Rattle.semantics.proofs.Blocks.{reader_is}
use Rattle.semantics.proofs.Basics.{cond_true, cond_false}
use Rattle.semantics.proofs.Calls.{needs_short}
use Rattle.std.specs.Prelude.{Result, Ok, Err}
use Rattle.answers.specs.declared.Reason.TheVariants.{WrongLength, WrongCheck, OutputTooShort}
use Rattle.answers.specs.declared.Refusal.{Refusal}
use Rattle.answers.specs.Replies.{rest_zeroed}
use Rattle.block_reader.specs.Replies.{words_outcome}
use Rattle.slices.proofs.Laws.{put_next}
use Rattle.answers.proofs.Outcomes.{refused_outcome, words_outcome_lem}

words_snoc : (n : ℕ) (bs : List ℕ) → words_of (n + 1) bs ≡ words_of n bs ++ (word_at (drop (4 * n) bs) ∷ [])
unfolding words_of
words_snoc n bs = ap (λ (m : ℕ). words_of m bs) (add-one n) ∙ go n bs
  where
    go : (n : ℕ) (bs : List ℕ) → words_of (suc n) bs ≡ words_of n bs ++ (word_at (drop (4 * n) bs) ∷ [])
    go zero bs = refl
    go (suc n) bs =
        let k : 4 + 4 * n ≡ 4 * suc n = omega arith in
        ap (λ (l : List ℕ). word_at bs ∷ l) (go n (drop 4 bs)
        ∙ ap (λ (l : List ℕ). words_of n (drop 4 bs) ++ (word_at l ∷ [])) (drop-drop (4 * n) 4 bs ∙ ap (λ (m : ℕ). drop m bs) k))

-- The words of the block at the front, of which i are written.
pub record WordsRead (bs o : List ℕ) (i : ℕ) : Type 0 where
  pub some : i ≤ 127
  pub kept : length o ≡ 127
  pub front : take i o ≡ words_of i bs

pub words_none : (bs o : List ℕ) → length o ≡ 127 → WordsRead bs o 0
unfolding words_of
words_none bs o h = record { some = omega arith; kept = h; front = refl }

module _ {bs o : List ℕ} {i : ℕ} (r : WordsRead bs o i) where
  pub words_more : {w : ℕ} → i < 127 → w ≡ word_at (drop (4 * i) bs) → WordsRead bs (set o i w) (i + 1)
  words_more {w} h e = record {
    some = omega arith;
    kept = length-set o i w ∙ r.kept;
    front =
        put_next o i (i + 1) w refl (omega (arith, r.kept)) r.front
        ∙ ap (λ (x : ℕ). words_of i bs ++ (x ∷ [])) e ∙ sym (words_snoc i bs);
  }

  pub words_all : 127 ≤ i → o ≡ words_of 127 bs
  words_all h =
      let e : i ≡ 127 = omega (arith, r.some) in
      sym (take_all i o (omega (arith, r.kept))) ∙ r.front ∙ ap (λ (n : ℕ). words_of n bs) e

-- The outcome where `front` is written and the words of `a` are to follow.
abbrev following : (lent : ℕ) (front : List ℕ) → Answer (List ℕ) → Outcome
following lent front a = outcome [] (lent ∷ []) (and_then a (λ (ws : List ℕ). result ((front ++ ws) ∷ []) []))

follow_more : (lent : ℕ) (front us : List ℕ) (a : Answer (List ℕ))
    → following lent (front ++ us) a ≡ following lent front (and_then a (λ (ws : List ℕ). good (us ++ ws)))
unfolding and_then
follow_more lent front us (good ws) = ap (λ (l : List ℕ). outcome [] (lent ∷ []) (result (l ∷ []) [])) (append_assoc front us ws)
follow_more lent front us (refused n k) = refl

-- n blocks, of which k are read.
pub record BlocksRead (bs o o₀ : List ℕ) (n k : ℕ) : Type 0 where
  pub some : k ≤ n
  pub kept : length o ≡ length o₀
  pub follow : following (length o₀) (take (127 * k) o) (read_blocks (n - k) k (drop (512 * k) bs)) ≡ words_outcome (length o₀) (read_blocks n 0 bs)

module _ {bs o o₀ : List ℕ} {n k : ℕ} (r : BlocksRead bs o o₀ n k) where
  module _ (h : k < n) where
    left : n - k ≡ suc (n - (k + 1))
    left = omega arith

    pub block_bad : false ≡ block_good (k + 1) (drop (512 * k) bs)
        → rest_zeroed (Err (record { reason = WrongCheck; place = k })) o ≡ words_outcome (length o₀) (read_blocks n 0 bs)
    unfolding read_blocks and_then
    block_bad g =
        let e : read_blocks (n - k) k (drop (512 * k) bs) ≡ refused 2 k =
        ap (λ (m : ℕ). read_blocks m k (drop (512 * k) bs)) left
        ∙ cond_false (block_good (suc k) (drop (512 * k) bs)) _ _ (ap (λ (m : ℕ). block_good m (drop (512 * k) bs)) (sym (add-one k)) ∙ sym g) in
        refused_outcome o r.kept (record { reason = WrongCheck; place = k })
        ∙ ap (following (length o₀) (take (127 * k) o)) (sym e) ∙ r.follow

    pub block_more : (o' : List ℕ) → true ≡ block_good (k + 1) (drop (512 * k) bs) → length o' ≡ length o
        → take (127 * k + 127) o' ≡ take (127 * k) o ++ words_of 127 (drop (512 * k) bs) → BlocksRead bs o' o₀ n (k + 1)
    unfolding read_blocks
    block_more o' g l f =
        let bs₁ : List ℕ = drop (512 * k) bs in
        let a : Answer (List ℕ) = read_blocks (n - (k + 1)) (k + 1) (drop (512 * (k + 1)) bs) in
        let m : 512 * (k + 1) ≡ 512 * k + 512 = omega arith in
        let d : drop (512 * (k + 1)) bs ≡ drop 512 bs₁ = ap (λ (m : ℕ). drop m bs) m ∙ sym (drop-drop 512 (512 * k) bs) in
        let e : read_blocks (n - k) k bs₁ ≡ and_then a (λ (ws : List ℕ). good (words_of 127 bs₁ ++ ws)) =
        ap (λ (m : ℕ). read_blocks m k bs₁) left
        ∙ cond_true (block_good (suc k) bs₁) _ _ (ap (λ (m : ℕ). block_good m bs₁) (sym (add-one k)) ∙ sym g)
        ∙ (λ i. and_then (read_blocks (n - (k + 1)) (sym (add-one k) i) (sym d i)) (λ (ws : List ℕ). good (words_of 127 bs₁ ++ ws))) in
        let j : 127 * (k + 1) ≡ 127 * k + 127 = omega arith in
        let q : take (127 * (k + 1)) o' ≡ take (127 * k) o ++ words_of 127 bs₁ = ap (λ (m : ℕ). take m o') j ∙ f in
        record {
          some = omega arith;
          kept = l ∙ r.kept;
          follow =
              ap (λ (u : List ℕ). following (length o₀) u a) q
              ∙ follow_more (length o₀) (take (127 * k) o) (words_of 127 bs₁) a
              ∙ ap (following (length o₀) (take (127 * k) o)) (sym e) ∙ r.follow;
        }

  pub blocks_all : n ≤ k → 127 * n ≤ length o₀ → rest_zeroed (Ok (127 * n)) o ≡ words_outcome (length o₀) (read_blocks n 0 bs)
  unfolding read_blocks and_then
  blocks_all h l =
      let e : k ≡ n = omega arith in
      let z : n - k ≡ 0 = omega arith in
      let w : take (127 * n) o ≡ take (127 * k) o ++ [] = ap (λ (m : ℕ). take (127 * m) o) (sym e) ∙ sym (append-nil (take (127 * k) o)) in
      words_outcome_lem o r.kept (127 * n) w (sym (length-take-le (127 * n) o (omega (arith, r.kept))) ∙ ap length w)
      ∙ ap (λ (m : ℕ). following (length o₀) (take (127 * k) o) (read_blocks m k (drop (512 * k) bs))) (sym z) ∙ r.follow

or_false : (s t : Bool) → s || t ≡ false → t ≡ false
or_false true t e = absurd (true≢false e)
or_false false t e = e

pub blocks_fit : (n : ℕ) → false ≡ bad_length n → (n / 512 ≤ 710) × (512 * (n / 512) ≤ n)
unfolding bad_length
blocks_fit n b =
    let m = ltb-false 363520 n (or_false (eqb n 0 || not (eqb (n % 512) 0)) (ltb 363520 n) (sym b)) in
    (omega arith, omega arith)

-- The order of the reader: 1, 15, 2.
module _ (bs o : List ℕ) {lent : ℕ} (l : length o ≡ lent) where
  abbrev reads : Answer Made
  reads = and_then (read_blocks (length bs / 512) 0 bs) (λ (ws : List ℕ). result (ws ∷ []) [])

  pub length_bad : true ≡ bad_length (length bs) → rest_zeroed (Err (record { reason = WrongLength; place = 0 })) o ≡ reader_call bs (lent ∷ [])
  unfolding reader_call
  length_bad b =
      refused_outcome o l (record { reason = WrongLength; place = 0 })
      ∙ ap (outcome [] (lent ∷ [])) (sym (cond_true (bad_length (length bs)) (refused 1 0) (needs 15 (127 * (length bs / 512)) lent reads) (sym b)))

  module _ (b : false ≡ bad_length (length bs)) where
    pub output_short : lent < 127 * (length bs / 512)
        → rest_zeroed (Err (record { reason = OutputTooShort; place = 127 * (length bs / 512) })) o ≡ reader_call bs (lent ∷ [])
    unfolding reader_call
    output_short h =
        refused_outcome o l (record { reason = OutputTooShort; place = 127 * (length bs / 512) })
        ∙ ap (outcome [] (lent ∷ [])) (needs_short 15 _ lent reads h ∙ sym (cond_false (bad_length (length bs)) _ _ (sym b)))

    pub blocks_read : (r : Result ℕ Refusal) → 127 * (length bs / 512) ≤ lent → rest_zeroed r o ≡ words_outcome lent (read_blocks (length bs / 512) 0 bs)
        → rest_zeroed r o ≡ reader_call bs (lent ∷ [])
    blocks_read r h e = e ∙ sym (reader_is bs lent (sym b) h)
