-- What the answers of the expansions stand for (01, "What each call hands back").
use Rattle.std.specs.Prelude.{List, [], ◌∷◌, ℕ, Result}
use Rattle.semantics.specs.Call.{Reply, Outcome, accepted_with}
use Rattle.answers.specs.Replies.{reply_of}
use Rattle.answers.specs.declared.Refusal.{Refusal}
use Rattle.grouping.specs.declared.Lengths.{Lengths}
use Rattle.interaction_lists.specs.declared.InteractionLengths.{InteractionLengths}

-- "number 0 with the count of words (or bytes) written to each slice", or a number and a place.
abbrev pub constraint_reply : Result Lengths Refusal → Reply
constraint_reply = reply_of (λ (n : Lengths). accepted_with (n.headers ∷ n.variables ∷ n.terms ∷ []) [])

-- The reply, scratch (work, then pool), and the three outputs.
abbrev pub constraint_outcome : Result Lengths Refusal → (work pool headers variables terms : List ℕ) → Outcome
constraint_outcome r work pool headers variables terms =
    record { reply = constraint_reply r; slices = work ∷ pool ∷ headers ∷ variables ∷ terms ∷ [] }

-- The same for the interactions: "the interaction call adds `num_interactions` and `max_fields_len`".
abbrev pub interaction_reply : Result InteractionLengths Refusal → Reply
interaction_reply = reply_of (λ (n : InteractionLengths).
    accepted_with
    (n.numerators.headers ∷ n.numerators.variables ∷ n.numerators.terms
    ∷ n.denominators.headers ∷ n.denominators.variables ∷ n.denominators.terms ∷ [])
    (n.num_interactions ∷ n.max_fields_len ∷ []))

abbrev pub interaction_outcome : Result InteractionLengths Refusal → (work pool h v t h' v' t' : List ℕ) → Outcome
interaction_outcome r work pool h v t h' v' t' =
    record { reply = interaction_reply r; slices = work ∷ pool ∷ h ∷ v ∷ t ∷ h' ∷ v' ∷ t' ∷ [] }
