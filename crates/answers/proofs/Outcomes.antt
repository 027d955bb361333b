-- The outcomes of the calls that write to one output.
use mathlib.Core.Path.{◌≡◌, refl, sym, ◌∙◌, ap}
use mathlib.Core.List.{List, [], ◌∷◌, ◌++◌}
use Prim.Native.Nat.{ℕ, ◌-◌}
use native.Mathlib.Omega.{arith}
use native.Mathlib.Nat.{sub-zero}
use lib.ListN.{length, take, replicate, length-take}
use Rattle.std.specs.Prelude.{Result, Ok, Err}
use Rattle.semantics.specs.Answer.{Answer, refused, and_then}
use Rattle.semantics.specs.Call.{accepted_with, zeros, padded, padded_all, outcome, result}
use Rattle.answers.specs.declared.Refusal.{Refusal}
use Rattle.answers.specs.Replies.{number_of, refused_reply, reply_of, answer_of, written_outcome, count_of, rest_zeroed}

-- What is done with an answer that is taken apart: it goes on with what the answer holds, or hands the refusal back.
module _ {X Y : Type 0} {s : Result X Refusal} {a : Answer X} (f : X → Answer Y) (e : answer_of s ≡ a) where
  pub goes_on : {x : X} → s ≡ Ok x → and_then a f ≡ f x
  unfolding and_then
  goes_on is = ap (λ (b : Answer X). and_then b f) (sym e ∙ ap answer_of is)

  pub hands_back : {v : Refusal} → s ≡ Err v → and_then a f ≡ refused (number_of v.reason) v.place
  unfolding and_then
  hands_back is = ap (λ (b : Answer X). and_then b f) (sym e ∙ ap answer_of is)

-- A call that writes nothing hands back its answer.
pub handed_back : {X : Type 0} (numbers : X → List ℕ) (r : Result X Refusal)
    → record { reply = reply_of (λ x. accepted_with [] (numbers x)) r; slices = [] } ≡ outcome [] [] (and_then (answer_of r) (λ x. result [] (numbers x)))
unfolding outcome and_then result padded_all
handed_back numbers (Ok x) = refl
handed_back numbers (Err r) = refl

-- Zeros past what was written finish a call.
pub finished : (r : Result ℕ Refusal) (o : List ℕ) {r' : Result ℕ Refusal} {o' : List ℕ}
    → (r' ≡ r) × (o' ≡ take (count_of r) o ++ replicate (length o - count_of r) 0) → written_outcome r' o' ≡ rest_zeroed r o
unfolding padded zeros
finished r o (e, f) =
    let k : ℕ = count_of r in
    let m : length o - k ≡ length o - length (take k o) = omega (arith, length-take k o) in
    (λ i. written_outcome (e i) (f i)) ∙ ap (λ (j : ℕ). written_outcome r (take k o ++ replicate j 0)) m

module _ (o : List ℕ) {n : ℕ} (l : length o ≡ n) where
  pub refused_outcome : (v : Refusal) → rest_zeroed (Err v) o ≡ outcome [] (n ∷ []) (refused (number_of v.reason) v.place)
  unfolding outcome padded zeros
  refused_outcome v = ap (λ (m : ℕ). record { reply = refused_reply v; slices = replicate m 0 ∷ [] }) (sub-zero (length o) ∙ l)

  pub words_outcome_lem : (k : ℕ) {ws : List ℕ} → take k o ≡ ws → k ≡ length ws → rest_zeroed (Ok k) o ≡ outcome [] (n ∷ []) (result (ws ∷ []) [])
  unfolding outcome padded_all result
  words_outcome_lem k e f = λ i. record { reply = record { number = 0; place = 0; counts = f i ∷ []; numbers = [] }; slices = padded (e i) (l i) ∷ [] }
