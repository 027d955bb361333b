-- The outcome of packing follows from its answer, and the answer from the outcome.
use mathlib.Core.Path.{◌≡◌, refl, sym, ap, ◌∙◌}
use mathlib.Core.List.{[], ◌∷◌}
use Prim.Native.Nat.{ℕ}
use native.Mathlib.Omega.{arith}
use lib.ListN.{length, get_or}
use Rattle.semantics.specs.Answer.{Answer, good, refused, and_then}
use Rattle.semantics.specs.Call.{Outcome, outcome, padded_all, result}
use Rattle.std.specs.Prelude.{Result, Ok, Err}
use Rattle.answers.specs.declared.Refusal.{Refusal}
use Rattle.answers.specs.Replies.{number_of}
use Rattle.packed_var.specs.declared.PackedVar.{PackedVar}
use Rattle.packed_var.specs.Packed.{packed_outcome}

abbrev pub packed_answer : Result PackedVar Refusal → Answer ℕ
packed_answer (Ok v) = good v.0
packed_answer (Err r) = refused (number_of r.reason) r.place

-- The outcome of a call that hands back one number.
abbrev pub number_told : Answer ℕ → Outcome
number_told a = outcome [] [] (and_then a (λ n. result [] (n ∷ [])))

told : (u : Result PackedVar Refusal) → packed_outcome u ≡ number_told (packed_answer u)
unfolding outcome and_then result padded_all
told (Ok v) = refl
told (Err r) = refl

abbrev how_many : Outcome → ℕ
how_many o = length o.reply.numbers

told_back : (a b : Answer ℕ) → number_told a ≡ number_told b → a ≡ b
unfolding outcome and_then result padded_all
told_back (good m) (good n) e = λ i. good (get_or (e i).reply.numbers 0 0)
told_back (good m) (refused n k) e = absurd (omega (arith, ap how_many e))
told_back (refused m j) (good n) e = absurd (omega (arith, ap how_many e))
told_back (refused m j) (refused n k) e = λ i. refused (e i).reply.number (e i).reply.place

module _ (u : Result PackedVar Refusal) {a : Answer ℕ} where
  pub outcome_is : packed_answer u ≡ a → packed_outcome u ≡ number_told a
  outcome_is e = told u ∙ ap number_told e

  pub answer_is : packed_outcome u ≡ number_told a → packed_answer u ≡ a
  answer_is e = told_back (packed_answer u) a (sym (told u) ∙ e)
