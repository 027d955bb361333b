-- What the answers of this crate stand for (01, "What each call hands back").
use Rattle.std.specs.Prelude.{Bool, cond, [], ◌∷◌, Result}
use Rattle.answers.specs.declared.Refusal.{Refusal}
use Rattle.answers.specs.Replies.{reply_of}
use Rattle.semantics.specs.Call.{Reply, Outcome, accepted_with}

-- The block check "says yes or no": 1 or 0.
abbrev pub block_reply : Result Bool Refusal → Reply
block_reply = reply_of (λ (good : Bool). accepted_with [] (cond good 1 0 ∷ []))

abbrev pub block_outcome : Result Bool Refusal → Outcome
block_outcome r = record { reply = block_reply r; slices = [] }
