-- The outcomes of the calls that hand back a number of the sheet.
use mathlib.Core.Path.{◌≡◌, ◌∙◌, ap}
use mathlib.Core.List.{List, [], ◌∷◌}
use Prim.Native.Nat.{ℕ}
use Rattle.semantics.specs.Answer.{Answer, good}
use Rattle.semantics.specs.Sheet.{Sheet}
use Rattle.semantics.specs.Check.{check}
use Rattle.semantics.specs.Call.{Result as Made, outcome, padded_all, result, on_sheet, check_call}
use Rattle.std.specs.Prelude.{Result, Ok, Err}
use Rattle.answers.specs.declared.Refusal.{Refusal}
use Rattle.sheet.specs.declared.Head.{Head}
use Rattle.sheet.specs.Replies.{checked_outcome}
use Rattle.sheet.proofs.Answers.{on_found, on_refused}
use Rattle.answers.specs.Replies.{counted_outcome}

module _ (p : ℕ) (ws : List ℕ) (number : Sheet → ℕ) where
  abbrev hands_back : Sheet → Answer Made
  hands_back t = result [] (number t ∷ [])

  pub counted_refused : {r : Result Head Refusal} {v : Refusal} → checked_outcome r ≡ check_call p ws → r ≡ Err v
      → counted_outcome (Err v) ≡ outcome [] [] (on_sheet p ws hands_back)
  unfolding outcome
  counted_refused e q = ap (outcome [] []) (on_refused p ws hands_back e q)

  pub counted_found : {t : Sheet} {n : ℕ} → check p ws ≡ good t → n ≡ number t → counted_outcome (Ok n) ≡ outcome [] [] (on_sheet p ws hands_back)
  unfolding outcome padded_all result
  counted_found e f = ap (λ (m : ℕ). counted_outcome (Ok m)) f ∙ ap (outcome [] []) (on_found p ws hands_back e)
