-- Demand 3, whole, as a caller has it of `build`, `expand_constraints` and `expand_interactions` (01, "For demand 3"): what holds of their
-- answers and of the slices that they leave, and that it follows from their contracts.
use Rattle.std.specs.Prelude.{◌≡◌, List, [], ◌∷◌, ℕ, take, Result}
use Rattle.semantics.specs.Answer.{good}
use Rattle.semantics.specs.Sheet.{Sheet}
use Rattle.semantics.specs.Check.{prime_of, check}
use Rattle.semantics.specs.Call.{Outcome, Accepted, handed_back, builder_call, constraint_call, interaction_call}
use Rattle.semantics.specs.Demand.{GraphRule, ConstraintRule, InteractionRule, GraphConstraintRule, GraphInteractionRule}
use Rattle.answers.specs.declared.Refusal.{Refusal}
use Rattle.grouping.specs.declared.Lengths.{Lengths}
use Rattle.interaction_lists.specs.declared.InteractionLengths.{InteractionLengths}
use Rattle.answers.specs.Replies.{written_reply, count_of}
use Rattle.dag.specs.Calls.{built_outcome}
use Rattle.expansion.specs.Answers.{constraint_outcome, interaction_outcome}

-- Where the builder's number is 0, the words given are a sheet, and as many words of the output as it counts are its graph, which keeps
-- every value and has no more nodes than records reached.
abbrev pub GraphBuilt : (ws : List ℕ) → Result ℕ Refusal → (out : List ℕ) → Type 0
GraphBuilt ws r out = (written_reply r).number ≡ 0 → (s : Sheet) × (check (prime_of ws) ws ≡ good s) × GraphRule (prime_of ws) s (take (count_of r) out)

-- Words that the builder hands back for a source, which is the sheet s.
pub record GraphWords (source : List ℕ) (s : Sheet) (ws : List ℕ) : Type 0 where
  pub scratch : ℕ
  pub out : ℕ
  pub accepted : Accepted (builder_call (prime_of source) source (scratch ∷ out ∷ []))
  pub sheet : check (prime_of source) source ≡ good s
  pub words : handed_back 1 (builder_call (prime_of source) source (scratch ∷ out ∷ [])) 0 ≡ ws

-- Where an expansion's number is 0, the words given are a sheet, and the lists in the slices are those that expanding and grouping give:
-- each constraint is the sum of its terms. Where the words are the graph of a source, each constraint of the source is the sum of the terms
-- that carry its node's place.
pub record ConstraintsExpanded (ws : List ℕ) (o : Outcome) : Type 0 where
  pub own : Accepted o → (s : Sheet) × (check (prime_of ws) ws ≡ good s) × ConstraintRule (prime_of ws) s o
  pub source : Accepted o → (source : List ℕ) (s : Sheet) → GraphWords source s ws → GraphConstraintRule (prime_of source) s o

-- The same for the interactions: each count and each field.
pub record InteractionsExpanded (ws : List ℕ) (o : Outcome) : Type 0 where
  pub own : Accepted o → (s : Sheet) × (check (prime_of ws) ws ≡ good s) × InteractionRule (prime_of ws) s o
  pub source : Accepted o → (source : List ℕ) (s : Sheet) → GraphWords source s ws → GraphInteractionRule (prime_of source) s o

-- For any words and any lent lengths, from what the contracts of the three calls promise of an answer r and of the slices.
pub record CallsDemand : Type 0 where
  pub build : (ws : List ℕ) (scratch-lent out-lent : ℕ) (r : Result ℕ Refusal) (scratch out : List ℕ)
      → built_outcome r scratch out ≡ builder_call (prime_of ws) ws (scratch-lent ∷ out-lent ∷ []) → GraphBuilt ws r out
  pub constraints : (ws : List ℕ) (work pool h v t : ℕ) (r : Result Lengths Refusal) (work' pool' h' v' t' : List ℕ)
      → constraint_outcome r work' pool' h' v' t' ≡ constraint_call (prime_of ws) ws (work ∷ pool ∷ h ∷ v ∷ t ∷ [])
      → ConstraintsExpanded ws (constraint_outcome r work' pool' h' v' t')
  pub interactions : (ws : List ℕ) (work pool h v t h₂ v₂ t₂ : ℕ) (r : Result InteractionLengths Refusal) (work' pool' h' v' t' h₃ v₃ t₃ : List ℕ)
      → interaction_outcome r work' pool' h' v' t' h₃ v₃ t₃ ≡ interaction_call (prime_of ws) ws (work ∷ pool ∷ h ∷ v ∷ t ∷ h₂ ∷ v₂ ∷ t₂ ∷ [])
      → InteractionsExpanded ws (interaction_outcome r work' pool' h' v' t' h₃ v₃ t₃)
