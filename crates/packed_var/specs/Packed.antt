-- A variable as a record, and what the answers of this crate stand for (01, "What each call hands back").
use Rattle.std.specs.Prelude.{[], ◌∷◌, ℕ, get_or, Result, Err}
use Rattle.semantics.specs.Sheet.{Record, record_of}
use Rattle.semantics.specs.Call.{Reply, Outcome, accepted_with}
use Rattle.answers.specs.Replies.{reply_of}
use Rattle.answers.specs.declared.Reason.{Reason}
use Rattle.answers.specs.declared.Refusal.{Refusal}
use Rattle.packed_var.specs.declared.PackedVar.{PackedVar}
use Rattle.symbolic_variable.specs.declared.Entry.{Entry}
use Rattle.symbolic_variable.specs.declared.SymbolicVariable.{SymbolicVariable}
use Rattle.symbolic_variable.specs.Variable.{entry_words}

-- The record of kind 1 with an entry's three words and a column.
abbrev pub entry_record : Entry → (column : ℕ) → Record
entry_record e d = record_of 1 (get_or (entry_words e) 0 0) (get_or (entry_words e) 1 0) (get_or (entry_words e) 2 0) d

abbrev pub variable_record : SymbolicVariable → Record
variable_record v = entry_record v.entry v.index

abbrev pub refused_for : Reason → Result PackedVar Refusal
refused_for reason = Err (record { reason = reason; place = 0 })

-- The packed number, or "a number and a place".
abbrev pub packed_reply : Result PackedVar Refusal → Reply
packed_reply = reply_of (λ (v : PackedVar). accepted_with [] (v.0 ∷ []))

abbrev pub packed_outcome : Result PackedVar Refusal → Outcome
packed_outcome r = record { reply = packed_reply r; slices = [] }
