-- What the builder's answer stands for (01, "What each call hands back"), and what its parts ask.
use Rattle.std.specs.Prelude.{◌≡◌, List, [], ◌∷◌, ℕ, ◌≤◌, length, Result}
use Rattle.semantics.specs.Sheet.{length_of}
use Rattle.semantics.specs.Check.{read_sheet}
use Rattle.semantics.specs.Call.{Outcome, zeros}
use Rattle.answers.specs.declared.Refusal.{Refusal}
use Rattle.answers.specs.Replies.{written_reply}

-- The reply, scratch and the output.
abbrev pub built_outcome : Result ℕ Refusal → (scratch out : List ℕ) → Outcome
built_outcome r scratch out = record { reply = written_reply r; slices = scratch ∷ out ∷ [] }

-- A checked sheet with its L, and nothing but zeros in what is lent for writing.
pub record Clear (ws : List ℕ) (words : ℕ) (scratch out : List ℕ) : Type 0 where
  pub words_are : words ≡ length_of (read_sheet ws)
  pub scratch_is : scratch ≡ zeros (length scratch)
  pub out_is : out ≡ zeros (length out)

-- What building the graph of a checked sheet asks: scratch of E zeros, and an output of zeros that has room for the sheet.
pub record Starting (ws scratch out : List ℕ) : Type 0 where
  pub room : length_of (read_sheet ws) ≤ length out
  pub scratch_is : scratch ≡ zeros (length (read_sheet ws).records)
  pub out_is : out ≡ zeros (length out)
