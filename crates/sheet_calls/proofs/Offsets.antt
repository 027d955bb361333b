-- Laws of the largest offset, taken record by record.
use mathlib.Core.Path.{◌≡◌, sym, ◌∙◌, ap}
use mathlib.Core.Bool.{cond}
use mathlib.Core.List.{List}
use Prim.Native.Nat.{ℕ, suc, ◌+◌, ◌-◌, ◌≤◌, ◌<◌, max}
use native.Mathlib.Omega.{arith}
use native.Mathlib.Nat.{add-zero, sub-zero}
use lib.Dec.{eqb}
use lib.ListN.{length, drop}
use lib.Seq.{get_or-drop, drop-drop}
use Rattle.semantics.specs.Answer.{good}
use Rattle.semantics.specs.Sheet.{Sheet, head_words, length_of, place}
use Rattle.semantics.specs.Check.{read_record, read_records, check}
use Rattle.semantics.specs.Graph.{rotation, max_rotation}
use Rattle.semantics.proofs.Places.{place_zero, place_next}
use Rattle.semantics.proofs.Encoding.{records_back, sheet_length}
use Rattle.semantics.proofs.Access.{words_are, words_long}
use Rattle.records.specs.Access.{node_in}
use Rattle.sheet.specs.declared.Head.{Head}
use Rattle.sheet.proofs.Answers.{head_of}
use Rattle.sheet_calls.specs.Replies.{largest}

-- The largest offset of the n records without the first i.
abbrev left : List ℕ → (n i : ℕ) → ℕ
left ws n i = largest (read_records (n - i) (drop (place 5 i) ws))

-- The larger of `most` and of what is left is the largest of all.
pub record Largest (ws : List ℕ) (n i most : ℕ) : Type 0 where
  pub some : i ≤ n
  pub larger : max most (left ws n i) ≡ largest (read_records n (drop 4 ws))

pub largest_none : (ws : List ℕ) (n : ℕ) → Largest ws n 0 0
largest_none ws n =
    let all : left ws n 0 ≡ largest (read_records n (drop 4 ws)) = λ i. largest (read_records (sub-zero n i) (drop (place_zero 5 i) ws)) in
    record { some = omega arith; larger = omega (arith, all) }

next : (ws : List ℕ) (n i : ℕ) → i < n → left ws n i ≡ max (cond (eqb (node_in ws i).kind 1) (node_in ws i).c 0) (left ws n (i + 1))
unfolding largest read_records read_record rotation
next ws n i h =
    let m : n - i ≡ suc (n - (i + 1)) = omega arith in
    let k : place 5 i + 5 ≡ place 5 (i + 1) = sym (place_next 5 i) in
    rw (m, drop-drop 5 (place 5 i) ws, k, get_or-drop (place 5 i) ws 0 0, get_or-drop (place 5 i) ws 3 0, add-zero)

module _ {ws : List ℕ} {n i most : ℕ} (l : Largest ws n i most) where
  pub largest_more : {x y : ℕ} → i < n → y ≡ cond (eqb (node_in ws i).kind 1) (node_in ws i).c 0 → x ≡ max most y → Largest ws n (i + 1) x
  largest_more h e f = record { some = omega arith; larger = omega (arith, next ws n i h, l.larger) }

  pub largest_all : n ≤ i → most ≡ largest (read_records n (drop 4 ws))
  unfolding largest read_records
  largest_all h =
      let z : n - i ≡ 0 = omega arith in
      let none : left ws n i ≡ 0 = rw z in
      omega (arith, l.larger)

-- The records of a checked sheet stand behind its head.
module _ (p : ℕ) (ws : List ℕ) {t : Sheet} (e : check p ws ≡ good t) {h : Head} (q : h ≡ head_of t) where
  pub records_fit : place 5 h.records ≤ length ws
  unfolding length_of
  records_fit = let l = words_long p ws t e in let m = sheet_length t in let r = ap (λ (k : Head). place 5 k.records) q in omega arith

  pub largest_is : largest (read_records h.records (drop 4 ws)) ≡ max_rotation t
  unfolding largest max_rotation head_words
  largest_is =
      ap largest (ap (λ (k : Head). read_records k.records (drop 4 ws)) q
      ∙ ap (λ (u : List ℕ). read_records (length t.records) (drop 4 u)) (words_are p ws t e)
      ∙ records_back t.records _)
