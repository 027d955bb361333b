-- The outcomes of the calls that check a sheet and write to one output.
use mathlib.Core.Path.{◌≡◌, sym, ◌∙◌, ap}
use mathlib.Core.List.{List, [], ◌∷◌}
use Prim.Native.Nat.{ℕ, ◌≤◌, ◌<◌}
use native.Mathlib.Omega.{arith}
use lib.ListN.{length, take}
use Rattle.semantics.specs.Answer.{Answer, good, refused}
use Rattle.semantics.specs.Sheet.{Sheet}
use Rattle.semantics.specs.Check.{check}
use Rattle.semantics.specs.Call.{Result as Made, outcome, needs, result, on_sheet, check_call}
use Rattle.semantics.proofs.Calls.{needs_met, needs_short}
use Rattle.answers.specs.declared.Refusal.{Refusal}
use Rattle.answers.specs.declared.Reason.TheVariants.{OutputTooShort}
use Rattle.std.specs.Prelude.{Result, Ok, Err}
use Rattle.answers.specs.Replies.{rest_zeroed}
use Rattle.sheet.specs.declared.Head.{Head}
use Rattle.sheet.specs.Replies.{checked_outcome}
use Rattle.answers.proofs.Outcomes.{refused_outcome, words_outcome_lem}
use Rattle.sheet.proofs.Answers.{on_found, on_refused}

-- A call that checks a sheet and then writes what it makes of it, where the output is long enough.
module _ (p : ℕ) (ws : List ℕ) (size : Sheet → ℕ) (made : Sheet → List ℕ) (o : List ℕ) {n : ℕ} (l : length o ≡ n) where
  abbrev writes : Sheet → Answer Made
  writes t = needs 15 (size t) n (result (made t ∷ []) [])

  pub sheet_refused : {r : Result Head Refusal} {v : Refusal} → checked_outcome r ≡ check_call p ws → r ≡ Err v
      → rest_zeroed (Err v) o ≡ outcome [] (n ∷ []) (on_sheet p ws writes)
  sheet_refused {v = v} e q = refused_outcome o l v ∙ ap (outcome [] (n ∷ [])) (on_refused p ws writes e q)

  module _ {t : Sheet} (e : check p ws ≡ good t) {k : ℕ} (f : k ≡ size t) where
    pub sheet_short : n < k → rest_zeroed (Err (record { reason = OutputTooShort; place = k })) o ≡ outcome [] (n ∷ []) (on_sheet p ws writes)
    sheet_short h =
        refused_outcome o l (record { reason = OutputTooShort; place = k })
        ∙ ap (outcome [] (n ∷ [])) (ap (refused 15) f ∙ needs_short 15 (size t) n _ (omega arith) ∙ on_found p ws writes e)

    pub sheet_written : k ≤ n → take k o ≡ made t → k ≡ length (made t) → rest_zeroed (Ok k) o ≡ outcome [] (n ∷ []) (on_sheet p ws writes)
    sheet_written h w m =
        words_outcome_lem o l k w m
        ∙ ap (outcome [] (n ∷ [])) (sym (needs_met 15 (size t) n (result (made t ∷ []) []) (omega arith)) ∙ on_found p ws writes e)
