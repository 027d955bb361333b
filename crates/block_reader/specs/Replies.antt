-- What the answer of the block reader stands for.
use Rattle.std.specs.Prelude.{List, [], ◌∷◌, ℕ}
use Rattle.semantics.specs.Answer.{Answer, and_then}
use Rattle.semantics.specs.Call.{Outcome, outcome, result}

-- The outcome of a call that writes some words to its one output.
abbrev pub words_outcome : (lent : ℕ) → Answer (List ℕ) → Outcome
words_outcome lent a = outcome [] (lent ∷ []) (and_then a (λ (ws : List ℕ). result (ws ∷ []) []))
