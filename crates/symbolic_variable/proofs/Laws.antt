-- Laws of rotating an entry, and a variable by its entry. Assumes nothing.
use mathlib.Core.Path.{◌≡◌, sym, ap, ◌∙◌}
use mathlib.Core.List.{[]}
use Prim.Native.Nat.{ℕ, ◌+◌, ◌<◌}
use native.Mathlib.Omega.{arith}
use borrow.Author.Tests.{le-leb, lt-leb}
use Rattle.std.specs.Prelude.{Option, Some, None, SomeIff, Result}
use Rattle.std.specs.Option.{ok_or}
use Rattle.semantics.specs.Answer.{Answer, good, and_then}
use Rattle.semantics.specs.Call.{outcome, result}
use Rattle.answers.specs.declared.Reason.TheVariants.{OffsetTooLarge}
use Rattle.answers.specs.declared.Refusal.{Refusal}
use Rattle.answers.specs.Replies.{answer_of}
use Rattle.answers.proofs.Outcomes.{handed_back}
use Rattle.symbolic_variable.specs.declared.Entry.{Entry}
use Rattle.symbolic_variable.specs.declared.SymbolicVariable.{SymbolicVariable}
use Rattle.symbolic_variable.specs.Variable.{entry_words, offset_moved, entry_rotated, variable_rotated, variable_words}
use Rattle.symbolic_variable.specs.Replies.{rotated_outcome, rotate_call, rotated_variable_outcome, rotate_variable_call}

-- A sum that is checked, or the refusal.
pub sum_moved : (o k : ℕ) (sum : Option ℕ) → SomeIff sum (o + k < 18446744073709551616) (o + k)
    → answer_of (ok_or sum (record { reason = OffsetTooLarge; place = 0 })) ≡ offset_moved o k
unfolding offset_moved
sum_moved o k None f = simp (lt-leb (o + k) 18446744073709551615 (omega (arith, f)))
sum_moved o k (Some n) (l, is) = ap good is ∙ sym (simp (le-leb (o + k) 18446744073709551615 (omega (arith, l))))

pub entry_turned : (e : Entry) (k : ℕ) (r : Result Entry Refusal) → answer_of r ≡ entry_rotated e k → rotated_outcome r ≡ rotate_call e k
unfolding rotate_call
entry_turned e k r is = handed_back entry_words r ∙ ap (λ (a : Answer Entry). outcome [] [] (and_then a (λ m. result [] (entry_words m)))) is

pub variable_turned : (v : SymbolicVariable) (k : ℕ) (r : Result SymbolicVariable Refusal) → answer_of r ≡ variable_rotated v k
    → rotated_variable_outcome r ≡ rotate_variable_call v k
unfolding rotate_variable_call
variable_turned v k r is =
    handed_back variable_words r ∙ ap (λ (a : Answer SymbolicVariable). outcome [] [] (and_then a (λ m. result [] (variable_words m)))) is
