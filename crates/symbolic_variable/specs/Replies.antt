-- The calls of this crate, and what their answers stand for (01, "What each call hands back").
use Rattle.std.specs.Prelude.{[], ◌∷◌, ℕ, Option, Some, None, Result}
use Rattle.semantics.specs.Answer.{and_then}
use Rattle.answers.specs.Replies.{reply_of}
use Rattle.semantics.specs.Call.{Reply, Outcome, accepted_with, outcome, result}
use Rattle.semantics.specs.Refusals.{Sends}
use Rattle.answers.specs.declared.Refusal.{Refusal}
use Rattle.symbolic_variable.specs.declared.Entry.{Entry}
use Rattle.symbolic_variable.specs.declared.SymbolicVariable.{SymbolicVariable}
use Rattle.symbolic_variable.specs.Variable.{entry_words, entry_offset, variable_words, entry_rotated, variable_rotated}

-- An entry's offset: one number, or none.
abbrev pub offset_reply : Option ℕ → Reply
offset_reply (Some o) = accepted_with [] (o ∷ [])
offset_reply None = accepted_with [] []

abbrev pub offset_outcome : Option ℕ → Outcome
offset_outcome r = record { reply = offset_reply r; slices = [] }

unfoldable pub offset_call : Entry → Outcome
offset_call e = outcome [] [] (result [] (entry_offset e))

-- An entry that was rotated: its three words.
abbrev pub rotated_reply : Result Entry Refusal → Reply
rotated_reply = reply_of (λ (e : Entry). accepted_with [] (entry_words e))

abbrev pub rotated_outcome : Result Entry Refusal → Outcome
rotated_outcome r = record { reply = rotated_reply r; slices = [] }

unfoldable pub rotate_call : Entry → (offset : ℕ) → Outcome
rotate_call e k = outcome [] [] (and_then (entry_rotated e k) (λ m. result [] (entry_words m)))

-- A variable that was rotated: its entry's three words, then its column.
abbrev pub rotated_variable_reply : Result SymbolicVariable Refusal → Reply
rotated_variable_reply = reply_of (λ (v : SymbolicVariable). accepted_with [] (variable_words v))

abbrev pub rotated_variable_outcome : Result SymbolicVariable Refusal → Outcome
rotated_variable_outcome r = record { reply = rotated_variable_reply r; slices = [] }

unfoldable pub rotate_variable_call : SymbolicVariable → (offset : ℕ) → Outcome
rotate_variable_call v k = outcome [] [] (and_then (variable_rotated v k) (λ m. result [] (variable_words m)))

-- Of the listed refusals these calls send 11 alone.
pub record RotateRefusals : Type 0 where
  pub entry : (e : Entry) (offset : ℕ) → Sends (11 ∷ []) (rotate_call e offset)
  pub variable : (v : SymbolicVariable) (offset : ℕ) → Sends (11 ∷ []) (rotate_variable_call v offset)
