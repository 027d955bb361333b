-- A leaf of a checked sheet packs or is refused with 8 to 11; a constant of one is below the prime.
use mathlib.Core.Path.{◌≡◌, refl, sym, ap, subst, ◌∙◌}
use mathlib.Core.Bool.{Bool, true, true≢false, ◌&&◌}
use mathlib.Core.List.{List, [], ◌∷◌}
use Prim.Native.Nat.{ℕ, zero, suc, ◌≤◌, ◌<◌}
use native.Mathlib.Omega.{arith}
use lib.Dec.{eqb, leb, ltb}
use borrow.Author.Tests.{eqb-true, eqb-false, le-leb, leb-true, ltb-true}
use Rattle.semantics.specs.Arithmetic.{prime}
use Rattle.semantics.specs.Answer.{Answer, good, refused, and_then}
use Rattle.semantics.specs.Sheet.{Record, record_words, row, table, fits, passes, GoodRecord}
use Rattle.semantics.specs.Check.{reading, scan_words, judged}
use Rattle.semantics.specs.Packing.{packed, pack_fault, leaf_tests, pack_record, pack}
use Rattle.semantics.specs.Call.{pack_call}
use Rattle.semantics.specs.Monomial.{Monomial}
use Rattle.semantics.proofs.Basics.{by_test, and_true, true_and}
use Rattle.semantics.proofs.Records.{fits_row, is_kind, kind_good, words_fit}
use Rattle.packed_var.specs.declared.PackedVar.{PackedVar}
use Rattle.answers.specs.declared.Refusal.{Refusal}
use Rattle.packed_var.specs.Packed.{packed_outcome}
use Rattle.packed_var.proofs.Answers.{packed_answer, answer_is}
use Rattle.std.specs.Prelude.{Result, Ok, Err}
use Rattle.monomial.specs.Words.{single}
use Rattle.expand.specs.Making.{Makes}

-- A scan of words that pass goes through.
scan_all : {X : Type 0} (n : ℕ) (ts : List (ℕ → Bool)) (i : ℕ) (ws : List ℕ) (x : X) → passes ts ws ≡ true → judged (scan_words n ts (reading i ws)) x ≡ good x
unfolding scan_words passes judged
scan_all n [] i [] x h = refl
scan_all n [] i (w ∷ ws) x h = refl
scan_all n (t ∷ ts) i [] x h = absurd (true≢false (sym h))
scan_all n (t ∷ ts) i (w ∷ ws) x h =
    let both = and_true (t w) (passes ts ws) h in
    rw both.0 (scan_all n ts (suc i) ws x both.1)

-- The kinds 1 to 4 have no constant and no child.
leaf_row : (p own : ℕ) (r : Record) (k : ℕ) → 1 ≤ k → k ≤ 4 → fits_row p own r k ≡ fits_row 0 0 r k
unfolding fits_row row table fits passes
leaf_row p own r zero l h = absurd (omega arith)
leaf_row p own r (suc zero) l h = refl
leaf_row p own r (suc (suc zero)) l h = refl
leaf_row p own r (suc (suc (suc zero))) l h = refl
leaf_row p own r (suc (suc (suc (suc zero)))) l h = refl
leaf_row p own r (suc (suc (suc (suc (suc k))))) l h = absurd (omega arith)

-- What packing says: the packed number where there is no fault, or the fault.
abbrev Told : (fault number : ℕ) → Answer ℕ → Type 0
Told fault number (good n) = (fault ≡ 0) × (number ≡ n)
Told fault number (refused n k) = (fault ≡ n) × (n ≡ 0 → ⊥)

record_told : (r : Record) → Told (pack_fault r) (packed r) (pack_record r)
unfolding pack_record
record_told r =
    by_test (Told (pack_fault r) (packed r)) (eqb (pack_fault r) 0) (λ e. (eqb-true (pack_fault r) 0 e, refl)) (λ e. (refl, eqb-false (pack_fault r) 0 e))

module _ (own : ℕ) (r : Record) (ok : GoodRecord prime own r) where
  -- On a checked sheet packing does not answer 5.
  pub pack_good : r.kind ≤ 4 → pack r ≡ pack_record r
  unfolding pack and_then leaf_tests record_words passes
  pack_good h =
      let l : 1 ≤ r.kind = leb-true 1 r.kind (and_true (leb 1 r.kind) (leb r.kind 9) (unfold is_kind in (kind_good prime own r ok))).0 in
      ap (λ (a : Answer Record). and_then a pack_record)
      (scan_all 5 (leaf_tests (record_words r)) 0 (record_words r) r
      (true_and (leb 1 r.kind && leb r.kind 4) _ (true_and (leb 1 r.kind) (leb r.kind 4) (le-leb 1 r.kind l) (le-leb r.kind 4 h))
      (unfold fits_row in (sym (leaf_row prime own r r.kind l h) ∙ words_fit prime own r ok r.kind refl))))

  pub constant_small : r.kind ≡ 5 → r.a < prime
  unfolding fits_row row table fits passes
  constant_small e = ltb-true r.a prime (and_true (ltb r.a prime) _ (words_fit prime own r ok 5 e)).0

  -- What `expand_leaf` hands back.
  module _ (low : r.kind ≤ 4) (u : Result PackedVar Refusal) (e : packed_outcome u ≡ pack_call r) where
    said : {x : Result PackedVar Refusal} → u ≡ x → Told (pack_fault r) (packed r) (packed_answer x)
    unfolding pack_call
    said q = subst (Told (pack_fault r) (packed r)) (sym (answer_is u e ∙ pack_good low) ∙ ap packed_answer q) (record_told r)

    pub single_made : {v : PackedVar} → u ≡ Ok v → {l : List Monomial} → l ≡ single v.0 ∷ [] → Makes (Ok l) (pack_fault r) (single (packed r) ∷ [])
    single_made q h = let t = said q in (t.0, h ∙ ap (λ (n : ℕ). single n ∷ []) (sym t.1))

    pub leaf_refused : {w : Refusal} → u ≡ Err w → Makes (Err w.reason) (pack_fault r) (single (packed r) ∷ [])
    leaf_refused q = (said q).0
