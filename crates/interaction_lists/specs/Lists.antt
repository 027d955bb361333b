-- The lists of the interactions and the two numbers, or why there are none (01, "What each call hands back").
use Rattle.std.specs.Prelude.{List, [], ◌∷◌, ◌++◌, ℕ, ◌≡◌, Result, IfOk}
use Rattle.slices.specs.Lent.{old, new}
use Rattle.semantics.specs.Answer.{Answer, and_then}
use Rattle.semantics.specs.Sheet.{Sheet, Interaction}
use Rattle.semantics.specs.Call.{Result as Made, result, interaction_outputs, fitted, interaction_numbers}
use Rattle.records.specs.Access.{counts_of, fields_of}
use Rattle.answers.specs.declared.Refusal.{Refusal}
use Rattle.answers.specs.Replies.{answer_of}
use Rattle.interaction_lists.specs.declared.InteractionLengths.{InteractionLengths}
use Rattle.constraint_lists.specs.Lists.{LentOutputs, lengths_of, words_of, Fit, SameSlices}

-- The lists in front of numerators and denominators, with the two numbers, or the refusal, are an answer for the lent lengths, those of the scratch first.
pub record InteractionsAre (scratch : List ℕ) (a b : LentOutputs) (r : Result InteractionLengths Refusal) (answer : List ℕ → Answer Made) : Type 0 where
  pub numerators : SameSlices (old a) (new a)
  pub denominators : SameSlices (old b) (new b)
  pub inside : IfOk r (λ (n : InteractionLengths). Fit n.numerators (new a) × Fit n.denominators (new b))
  pub answers : and_then (answer_of r) (λ (n : InteractionLengths).
      result (words_of n.numerators (new a) ++ words_of n.denominators (new b)) (n.num_interactions ∷ n.max_fields_len ∷ []))
      ≡ answer (scratch ++ lengths_of (old a) ++ lengths_of (old b))

-- What is written of a sheet whose records are expanded: "17: a finished list exceeds its output slice."
abbrev pub interactions_fitted : (p : ℕ) (lent : List ℕ) → Sheet → Answer Made
interactions_fitted p lent s = fitted (interaction_outputs p s) lent (interaction_numbers s)

-- The records of all counts, then those of all fields.
abbrev pub counts_then_fields : List Interaction → List ℕ
counts_then_fields xs = counts_of xs ++ fields_of xs
