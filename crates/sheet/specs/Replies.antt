-- What the answer of the check stands for (01, "What each call hands back").
use Rattle.std.specs.Prelude.{[], ◌∷◌, Result}
use Rattle.semantics.specs.Call.{Reply, Outcome, accepted_with}
use Rattle.answers.specs.declared.Refusal.{Refusal}
use Rattle.answers.specs.Replies.{reply_of}
use Rattle.sheet.specs.declared.Head.{Head}

-- The sheet check tells E, C, I, L and where the interactions start.
abbrev pub checked_reply : Result Head Refusal → Reply
checked_reply = reply_of (λ (h : Head). accepted_with [] (h.records ∷ h.constraints ∷ h.interactions ∷ h.words ∷ h.start ∷ []))

abbrev pub checked_outcome : Result Head Refusal → Outcome
checked_outcome r = record { reply = checked_reply r; slices = [] }
