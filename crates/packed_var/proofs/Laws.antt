-- Laws of packing a variable. Assumes nothing.
use mathlib.Core.Path.{◌≡◌, refl, sym, ap, ◌∙◌}
use mathlib.Core.Bool.{Bool, true, false, cond}
use Prim.Native.Nat.{ℕ, ◌+◌, ◌*◌, ◌<◌}
use lib.Dec.{eqb, ltb}
use borrow.Author.Tests.{lt-ltb}
use Rattle.semantics.specs.Answer.{Answer, good, refused}
use Rattle.semantics.specs.Sheet.{record_of}
use Rattle.semantics.specs.Packing.{packed, pack_fault, pack_record}
use Rattle.semantics.specs.Call.{variable_call}
use Rattle.symbolic_variable.specs.declared.Entry.{Entry}
use Rattle.symbolic_variable.specs.declared.Entry.TheVariants.{Preprocessed, Main, Public, Challenge}
use Rattle.std.specs.Prelude.{Result}
use Rattle.answers.specs.declared.Reason.TheVariants.{ColumnTooLarge}
use Rattle.answers.specs.declared.Refusal.{Refusal}
use Rattle.packed_var.specs.declared.PackedVar.{PackedVar}
use Rattle.packed_var.specs.Packed.{entry_record, refused_for, packed_outcome}
use Rattle.packed_var.proofs.Answers.{packed_answer, outcome_is}

abbrev pub four_faults : (s t u v : Bool) → ℕ → Answer ℕ
four_faults s t u v n = cond s (refused 8 0) (cond t (refused 9 0) (cond u (refused 10 0) (cond v (refused 11 0) (good n))))

abbrev fault_of : (s t u v : Bool) → ℕ
fault_of s t u v = cond s 8 (cond t 9 (cond u 10 (cond v 11 0)))

fault_first : (s t u v : Bool) (n : ℕ) → cond (eqb (fault_of s t u v) 0) (good n) (refused (fault_of s t u v) 0) ≡ four_faults s t u v n
fault_first true t u v n = refl
fault_first false true u v n = refl
fault_first false false true v n = refl
fault_first false false false true n = refl
fault_first false false false false n = refl

pub variable_faults : (a b c d : ℕ) {s t u v : Bool} → ltb 65535 d ≡ s → eqb a 2 ≡ t → ltb 255 b ≡ u → ltb 15 c ≡ v
    → four_faults s t u v (a + 16 * b + 4096 * c + 65536 * d) ≡ pack_record (record_of 1 a b c d)
unfolding pack_record pack_fault packed
variable_faults a b c d {s} {t} {u} {v} p q r x =
    sym (fault_first s t u v _)
    ∙ sym (λ i. cond (eqb (fault_of (p i) (q i) (r i) (x i)) 0) (good (a + 16 * b + 4096 * c + 65536 * d))
    (refused (fault_of (p i) (q i) (r i) (x i)) 0))

faulty_column : (e : Entry) (d : ℕ) → 65535 < d → refused 8 0 ≡ pack_record (entry_record e d)
faulty_column (Preprocessed o) d h = variable_faults 0 0 o d (lt-ltb 65535 d h) refl refl refl
faulty_column (Main p o) d h = variable_faults 1 p o d (lt-ltb 65535 d h) refl refl refl
faulty_column Public d h = variable_faults 3 0 0 d (lt-ltb 65535 d h) refl refl refl
faulty_column Challenge d h = variable_faults 2 0 0 d (lt-ltb 65535 d h) refl refl refl

-- What packing hands back: 8 for the column, or what the entry and the column say.
module _ (d : ℕ) (u : Result PackedVar Refusal) where
  pub column_wrong : (e : Entry) → u ≡ refused_for ColumnTooLarge → 65535 < d → packed_outcome u ≡ variable_call (entry_record e d)
  unfolding variable_call
  column_wrong e q h = outcome_is u (ap packed_answer q ∙ faulty_column e d h)

  pub entry_packs : {e f : Entry} → e ≡ f → packed_answer u ≡ pack_record (entry_record f d) → packed_outcome u ≡ variable_call (entry_record e d)
  unfolding variable_call
  entry_packs p h = outcome_is u (h ∙ ap (λ (e : Entry). pack_record (entry_record e d)) (sym p))
