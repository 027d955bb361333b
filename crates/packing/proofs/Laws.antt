-- Laws of the words of a leaf, and of packing and unpacking them. Assumes nothing.
use mathlib.Core.Path.{◌≡◌, refl, sym, ap, ◌∙◌}
use mathlib.Core.Bool.{Bool, true, false, cond, ◌&&◌, ◌||◌}
use mathlib.Core.List.{[]}
use Prim.Native.Nat.{ℕ, zero, suc, ◌≤◌}
use native.Mathlib.Omega.{arith}
use lib.Dec.{eqb, leb}
use Rattle.semantics.specs.Answer.{Answer, good, refused, and_then}
use Rattle.semantics.specs.Sheet as sheet
use Rattle.semantics.specs.Sheet.{record_of, record_words, table, row, fits}
use Rattle.semantics.specs.Check.{Scan, reading, stopped, scan_words, judged}
use Rattle.semantics.specs.Packing.{leaf_tests, packed, pack_fault, pack_record, pack, unpacked, hands_out, unpack}
use Rattle.semantics.specs.Call.{Outcome, outcome, padded_all, result, pack_call, variable_call, unpack_call}
use Rattle.symbolic_variable.specs.declared.Entry.{Entry}
use Rattle.symbolic_variable.specs.declared.Entry.TheVariants.{Preprocessed, Main, Public, Challenge}
use Rattle.std.specs.Prelude.{Result, Ok, Err}
use Rattle.answers.specs.declared.Reason.TheVariants.{WrongRecord}
use Rattle.answers.specs.declared.Refusal.{Refusal}
use Rattle.packed_var.specs.declared.PackedVar.{PackedVar}
use Rattle.packed_var.specs.Packed.{entry_record, packed_outcome}
use Rattle.packed_var.proofs.Answers.{packed_answer, number_told, outcome_is, answer_is}
use Rattle.packing.specs.declared.leaf.Leaf.{Leaf}
use Rattle.packing.specs.declared.leaf.Leaf.TheVariants.{Variable, IsFirstRow, IsLastRow, IsTransition}
use Rattle.records.specs.declared.Record.{Record}
use Rattle.records.specs.Access.{five_words}
use Rattle.packing.specs.Leaves.{leaf_record, leaf_checked, leaf_answer, unpacked_outcome}

-- ---- the words of a leaf
-- where the tests of a, b, c and d stop
abbrev pub four_tests : (s t u v : Bool) → Scan
four_tests s t u v = cond s (cond t (cond u (cond v (reading 5 []) (stopped 5 4)) (stopped 5 3)) (stopped 5 2)) (stopped 5 1)

pub kind_wrong : (k a b c d : ℕ) → leb 1 k && leb k 4 ≡ false → refused 5 0 ≡ leaf_checked (record_of k a b c d)
unfolding leaf_checked scan_words leaf_tests record_words judged
kind_wrong k a b c d h = rw h

pub variable_tests : (a b c d : ℕ) {s t u v w : Bool} → leb a 3 ≡ s → eqb a 1 ≡ t → eqb b 0 ≡ u → leb a 1 ≡ v → eqb c 0 ≡ w
    → judged (four_tests s (t || u) (v || w) true) (record_of 1 a b c d) ≡ leaf_checked (record_of 1 a b c d)
unfolding leaf_checked scan_words leaf_tests record_words row table fits
variable_tests a b c d p q r x y = sym (λ i. judged (four_tests (p i) (q i || r i) (x i || y i) true) (record_of 1 a b c d))

unused_words : (k a b c d : ℕ) → 2 ≤ k → k ≤ 4 → leaf_checked (record_of k a b c d) ≡ judged (four_tests (eqb a 0) (eqb b 0) (eqb c 0) (eqb d 0)) (record_of k a b c d)
unfolding leaf_checked scan_words leaf_tests record_words row table fits
unused_words zero a b c d l h = absurd (omega arith)
unused_words (suc zero) a b c d l h = absurd (omega arith)
unused_words (suc (suc zero)) a b c d l h = refl
unused_words (suc (suc (suc zero))) a b c d l h = refl
unused_words (suc (suc (suc (suc zero)))) a b c d l h = refl
unused_words (suc (suc (suc (suc (suc k))))) a b c d l h = absurd (omega arith)

pub mark_tests : (k a b c d : ℕ) → 2 ≤ k → k ≤ 4 → {s t u v : Bool} → eqb a 0 ≡ s → eqb b 0 ≡ t → eqb c 0 ≡ u → eqb d 0 ≡ v
    → judged (four_tests s t u v) (record_of k a b c d) ≡ leaf_checked (record_of k a b c d)
mark_tests k a b c d l h p q r x = sym (unused_words k a b c d l h ∙ (λ i. judged (four_tests (p i) (q i) (r i) (x i)) (record_of k a b c d)))

-- the words of a leaf pass
entry_checked : (e : Entry) (d : ℕ) → leaf_checked (entry_record e d) ≡ good (entry_record e d)
unfolding leaf_checked scan_words leaf_tests record_words row table fits judged
entry_checked (Preprocessed o) d = refl
entry_checked (Main p o) d = refl
entry_checked Public d = refl
entry_checked Challenge d = refl

leaf_checked_lem : (l : Leaf) → leaf_checked (leaf_record l) ≡ good (leaf_record l)
unfolding leaf_checked scan_words leaf_tests record_words row table fits judged
leaf_checked_lem (Variable v) = entry_checked v.entry v.index
leaf_checked_lem IsFirstRow = refl
leaf_checked_lem IsLastRow = refl
leaf_checked_lem IsTransition = refl

pub leaf_said : (l : Leaf) {w : Result Leaf Refusal} {r : sheet.Record} → w ≡ Ok l → leaf_record l ≡ r → leaf_answer w ≡ leaf_checked r
leaf_said l p e = ap leaf_answer p ∙ sym (leaf_checked_lem l) ∙ ap leaf_checked e

-- by the leaf that was read
module _ (r : sheet.Record) {w : Result Leaf Refusal} (answer : leaf_answer w ≡ leaf_checked r) where
  pub pack_refused : {f : Refusal} → w ≡ Err f → packed_outcome (Err f) ≡ pack_call r
  unfolding pack_call pack and_then leaf_checked
  pack_refused {f} p =
      outcome_is (Err f) (ap (λ (x : Answer sheet.Record). and_then x pack_record) (sym (ap leaf_answer p) ∙ answer))

  pub pack_said : {l m : Leaf} → w ≡ Ok l → l ≡ m → variable_call (leaf_record m) ≡ pack_call r
  unfolding pack_call variable_call pack and_then leaf_checked
  pack_said p q =
      ap number_told
      (ap (λ (x : Leaf). pack_record (leaf_record x)) (sym q) ∙ ap (λ (x : Answer sheet.Record). and_then x pack_record) (sym (ap leaf_answer p) ∙ answer))

pub first_packs : (v : PackedVar) → v.0 ≡ 8 → packed_outcome (Ok v) ≡ variable_call (leaf_record IsFirstRow)
unfolding variable_call pack_record pack_fault packed
first_packs v e = outcome_is (Ok v) (ap good e)

pub last_packs : (v : PackedVar) → v.0 ≡ 9 → packed_outcome (Ok v) ≡ variable_call (leaf_record IsLastRow)
unfolding variable_call pack_record pack_fault packed
last_packs v e = outcome_is (Ok v) (ap good e)

pub transition_packs : (v : PackedVar) → v.0 ≡ 10 → packed_outcome (Ok v) ≡ variable_call (leaf_record IsTransition)
unfolding variable_call pack_record pack_fault packed
transition_packs v e = outcome_is (Ok v) (ap good e)

-- ---- unpacking
-- What words that may be those of a number, packed again, say of unpacking it.
abbrev pub unpacked_by : Bool → Record → Result Record Refusal
unpacked_by true w = Ok w
unpacked_by false w = Err (record { reason = WrongRecord; place = 0 })

-- The outcome of a call that hands back a record's words.
abbrev words_told : Answer sheet.Record → Outcome
words_told x = outcome [] [] (and_then x (λ r. result [] (record_words r)))

by_told : (t : Bool) (w : Record) → unpacked_outcome (unpacked_by t w) ≡ words_told (cond t (good (five_words w)) (refused 5 0))
unfolding outcome and_then result padded_all record_words
by_told true w = refl
by_told false w = refl

pub unpack_by : (n : ℕ) (w : Record) (p : Result PackedVar Refusal) {q : Result PackedVar Refusal} {t : Bool} → five_words w ≡ unpacked n
    → packed_outcome p ≡ pack_call (five_words w) → p ≡ q → hands_out (packed_answer q) n ≡ t → unpacked_outcome (unpacked_by t w) ≡ unpack_call n
unfolding pack_call unpack_call unpack
unpack_by n w p {t = t} e a h k =
    let u : cond t (good (five_words w)) (refused 5 0) ≡ unpack n = rw (← k, ← h, answer_is p a, e) in
    by_told t w ∙ ap words_told u
