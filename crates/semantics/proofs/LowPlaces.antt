-- The places of packing, unpacking and the block check: a word of the record, or 0.
use mathlib.Core.Path.{◌≡◌, refl}
use mathlib.Core.Bool.{Bool}
use mathlib.Core.List.{List, [], ◌∷◌}
use Prim.Native.Nat.{ℕ, suc, ◌+◌, ◌≤◌}
use native.Mathlib.Omega.{arith}
use lib.Dec.{eqb}
use lib.ListN.{length}
use Rattle.semantics.specs.Answer.{Answer, good, refused, and_then}
use Rattle.semantics.specs.Sheet.{Record, record_words}
use Rattle.semantics.specs.Check.{Scan, reading, scan_words, judged}
use Rattle.semantics.specs.Block.{block_check}
use Rattle.semantics.specs.Packing.{pack_fault, leaf_tests, pack_record, pack, hands_out, unpacked, unpack}
use Rattle.semantics.specs.Call.{Result, outcome, result, block_check_call, pack_call, unpack_call}
use Rattle.semantics.specs.Refusals.{LowPlaces}
use Rattle.semantics.proofs.Basics.{by_test}
use Rattle.semantics.proofs.Refusals.{tests_short}

-- A refusal's place is at most m.
abbrev Low : (m : ℕ) → {X : Type 0} → Answer X → Type 0
Low m (good x) = Unit {0}
Low m (refused n k) = k ≤ m

module _ (m : ℕ) where
  then_low : {X Y : Type 0} (a : Answer X) (f : X → Answer Y) → Low m a → ((x : X) → Low m (f x)) → Low m (and_then a f)
  unfolding and_then
  then_low (good x) f l h = h x
  then_low (refused n k) f l h = l

  -- The place of a reply that has no slices.
  reply_low : (a : Answer Result) → Low m a → (outcome [] [] a).reply.place ≤ m
  unfolding outcome
  reply_low (good r) l = omega arith
  reply_low (refused n k) l = l

  -- Words are judged from place i on, and there are as many as tests.
  judged_low : {X : Type 0} (x : X) (n : ℕ) (ts : List (ℕ → Bool)) (i : ℕ) (ws : List ℕ) → length ts ≤ length ws → i + length ws ≤ suc m
      → Low m (judged (scan_words n ts (reading i ws)) x)
  unfolding scan_words judged
  judged_low x n [] i ws l h = tt
  judged_low x n (t ∷ ts) i [] l h = absurd (omega arith)
  judged_low x n (t ∷ ts) i (w ∷ ws) l h =
      let ih = judged_low x n ts (suc i) ws (omega arith) (omega arith) in
      by_test (λ (s : Scan). Low m (judged s x)) (t w) (λ e. ih) (λ e. omega arith)

record_low : (r : Record) → Low 4 (pack_record r)
unfolding pack_record
record_low r = by_test (Low 4) (eqb (pack_fault r) 0) (λ e. tt) (λ e. omega arith)

zero_place : (a : Answer Result) → Low 0 a → (outcome [] [] a).reply.place ≡ 0
unfolding outcome
zero_place (good r) l = refl
zero_place (refused n k) l = omega arith

unpack_low : (n : ℕ) → Low 0 (unpack n)
unfolding unpack
unpack_low n = by_test (Low 0) (hands_out (pack (unpacked n)) n) (λ e. tt) (λ e. omega arith)

block_low : (number : ℕ) (bytes : List ℕ) → Low 0 (block_check number bytes)
unfolding block_check
block_low number bytes = by_test (Low 0) (eqb (length bytes) 512) (λ e. tt) (λ e. omega arith)

pub low_places : LowPlaces
low_places = record {
  pack = λ r. unfold pack_call pack result in
      (reply_low 4 _ (then_low 4 (pack r) _
      (then_low 4 _ pack_record (judged_low 4 r 5 (leaf_tests (record_words r)) 0 (record_words r) (tests_short r) (unfold record_words in (omega arith))) record_low)
      (λ n. tt)));
  unpack = λ n. unfold unpack_call result in (zero_place _ (then_low 0 (unpack n) _ (unpack_low n) (λ r. tt)));
  block_check = λ bytes number. unfold block_check_call result in
      (zero_place _ (then_low 0 (block_check number bytes) _ (block_low number bytes) (λ y. tt)));
}
