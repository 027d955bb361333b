-- What the answers of this crate stand for (01, "What each call hands back").
use Rattle.std.specs.Prelude.{◌≡◌, [], ◌∷◌, ℕ, ◌≤◌, Result, Ok, Err}
use Rattle.semantics.specs.Answer.{Answer, good, refused}
use Rattle.semantics.specs.Sheet as sheet
use Rattle.semantics.specs.Sheet.{record_of, record_words}
use Rattle.semantics.specs.Check.{reading, scan_words, judged}
use Rattle.semantics.specs.Packing.{leaf_tests}
use Rattle.semantics.specs.Call.{Reply, Outcome, accepted_with}
use Rattle.answers.specs.Replies.{number_of, reply_of}
use Rattle.symbolic_variable.specs.declared.Entry.{Entry}
use Rattle.symbolic_variable.specs.Variable.{variable_of}
use Rattle.answers.specs.declared.Reason.TheVariants.{WrongRecord}
use Rattle.answers.specs.declared.Refusal.{Refusal}
use Rattle.packed_var.specs.Packed.{variable_record}
use Rattle.packing.specs.declared.leaf.Leaf.{Leaf}
use Rattle.packing.specs.declared.leaf.Leaf.TheVariants.{Variable, IsFirstRow, IsLastRow, IsTransition}
use Rattle.records.specs.declared.Record.{Record}

-- "1 Variable", "2 IsFirstRow, 3 IsLastRow, 4 IsTransition: none"
abbrev pub leaf_record : Leaf → sheet.Record
leaf_record (Variable v) = variable_record v
leaf_record IsFirstRow = record_of 2 0 0 0 0
leaf_record IsLastRow = record_of 3 0 0 0 0
leaf_record IsTransition = record_of 4 0 0 0 0

-- The first step of packing: each word of the record passes its test.
unfoldable pub leaf_checked : sheet.Record → Answer sheet.Record
leaf_checked r = judged (scan_words 5 (leaf_tests (record_words r)) (reading 0 (record_words r))) r

abbrev pub leaf_answer : Result Leaf Refusal → Answer sheet.Record
leaf_answer (Ok l) = good (leaf_record l)
leaf_answer (Err r) = refused (number_of r.reason) r.place

abbrev pub wrong_at : ℕ → Result Leaf Refusal
wrong_at place = Err (record { reason = WrongRecord; place = place })

abbrev pub leaf_of_variable : Entry → (column : ℕ) → Result Leaf Refusal
leaf_of_variable e d = Ok (Variable (variable_of e d))

-- A kind of row marks and its leaf.
abbrev pub IsMark : ℕ → Leaf → Type 0
IsMark k l = (2 ≤ k) × (k ≤ 4) × (leaf_record l ≡ record_of k 0 0 0 0)

-- "it gives the five words", or a number and a place.
abbrev pub unpacked_reply : Result Record Refusal → Reply
unpacked_reply = reply_of (λ (w : Record). accepted_with [] (w.kind ∷ w.a ∷ w.b ∷ w.c ∷ w.d ∷ []))

abbrev pub unpacked_outcome : Result Record Refusal → Outcome
unpacked_outcome r = record { reply = unpacked_reply r; slices = [] }
