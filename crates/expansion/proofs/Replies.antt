-- From the lists that stand in the outputs to the outcome of a call.
use mathlib.Core.Path.{◌≡◌, ap, ◌∙◌}
use mathlib.Core.List.{List, [], ◌∷◌, ◌++◌, map}
use Prim.Native.Nat.{ℕ, ◌-◌, ◌≤◌}
use native.Mathlib.Omega.{arith}
use native.Mathlib.Nat.{sub-zero}
use lib.ListN.{length, take, replicate, length-take}
use Rattle.semantics.specs.Arithmetic.{prime}
use Rattle.semantics.specs.Answer.{Answer, good, refused, and_then}
use Rattle.semantics.specs.Sheet.{Sheet}
use Rattle.semantics.specs.Check.{read_sheet, check}
use Rattle.semantics.specs.Call.{Result as Made, Outcome, zeros, result, padded, padded_all, outcome}
use Rattle.semantics.specs.Call.{on_sheet, check_call, expansion, constraints_of, constraint_call, interactions_of, interaction_call}
use Rattle.slices.specs.Lent.{old, new}
use Rattle.records.specs.Access.{IsSheet}
use Rattle.records.proofs.Reading.{read_found}
use Rattle.std.specs.Prelude.{Result, Ok, Err, IfOk}
use Rattle.std.specs.Result.{result_unwrap_or}
use Rattle.answers.specs.declared.Refusal.{Refusal}
use Rattle.answers.specs.Replies.{number_of, answer_of}
use Rattle.sheet.specs.declared.Head.{Head}
use Rattle.sheet.specs.Replies.{checked_outcome}
use Rattle.sheet.proofs.Answers.{found, on_found, on_refused}
use Rattle.grouping.specs.declared.Lengths.{Lengths}
use Rattle.interaction_lists.specs.declared.InteractionLengths.{InteractionLengths}
use Rattle.constraint_lists.specs.declared.Outputs.{Outputs}
use Rattle.constraint_lists.specs.Lists.{LentOutputs, lengths_of, words_of, Fit, cut, ConstraintsAre, on_words}
use Rattle.interaction_lists.specs.Lists.{InteractionsAre}
use Rattle.expansion.specs.Answers.{constraint_reply, constraint_outcome, interaction_reply, interaction_outcome}

-- No words stay after a refusal.
abbrev nothing : Lengths
nothing = record { headers = 0; variables = 0; terms = 0 }

abbrev kept_of : Result Lengths Refusal → Lengths
kept_of r = result_unwrap_or r nothing

abbrev both_kept : Result InteractionLengths Refusal → InteractionLengths
both_kept r = result_unwrap_or r (record { numerators = nothing; denominators = nothing; num_interactions = 0; max_fields_len = 0 })

-- Words that stay, and zeros behind them.
kept_padded : (k : ℕ) (o : List ℕ) → cut k o ≡ padded (take k o) (length o)
unfolding padded zeros
kept_padded k o =
    let m : length o - k ≡ length o - length (take k o) = omega (arith, length-take k o) in
    ap (λ (j : ℕ). take k o ++ replicate j 0) m

kept_count : (k : ℕ) (o : List ℕ) → k ≤ length o → k ≡ length (take k o)
kept_count k o l = omega (arith, length-take k o)

cut_none : (o : List ℕ) → cut 0 o ≡ zeros (length o)
unfolding zeros
cut_none o = ap (λ (n : ℕ). replicate n 0) (sub-zero (length o))

-- The outputs of a family, zeroed behind so many words of each.
module _ (o : Outputs) where
  abbrev cuts : Lengths → List (List ℕ)
  cuts n = cut n.headers o.headers.now ∷ cut n.variables o.variables.now ∷ cut n.terms o.terms.now ∷ []

  cuts_none : cuts nothing ≡ map zeros (lengths_of o)
  cuts_none = λ i. cut_none o.headers.now i ∷ cut_none o.variables.now i ∷ cut_none o.terms.now i ∷ []

  module _ (n : Lengths) where
    cuts_padded : cuts n ≡ padded_all (words_of n o) (lengths_of o)
    unfolding padded_all
    cuts_padded = λ i. kept_padded n.headers o.headers.now i ∷ kept_padded n.variables o.variables.now i ∷ kept_padded n.terms o.terms.now i ∷ []

    abbrev counts : List ℕ
    counts = n.headers ∷ n.variables ∷ n.terms ∷ []

    counts_are : Fit n o → counts ≡ map length (words_of n o)
    counts_are (h, v, t) = λ i. kept_count n.headers o.headers.now h i ∷ kept_count n.variables o.variables.now v i ∷ kept_count n.terms o.terms.now t i ∷ []

pub sheet_found : (ws : List ℕ) {r : Result Head Refusal} {h : Head} → checked_outcome r ≡ check_call prime ws → r ≡ Ok h
    → IsSheet ws
sheet_found ws e q =
    let t = found prime ws e q in
    t.1 ∙ ap good (read_found ws t.0 t.1)

-- A refused sheet ends the call, and another goes on.
module _ (ws : List ℕ) (rest : Sheet → Answer Made) where
  pub sheet_refused : {r : Result Head Refusal} {v : Refusal} → checked_outcome r ≡ check_call prime ws → r ≡ Err v
      → refused (number_of v.reason) v.place ≡ on_sheet prime ws rest
  sheet_refused e q = on_refused prime ws rest e q

  pub sheet_goes_on : check prime ws ≡ good (read_sheet ws) → rest (read_sheet ws) ≡ on_sheet prime ws rest
  sheet_goes_on e = on_found prime ws rest e

-- The constraint call, once scratch is zeroed and the outputs are zeroed behind their lists.
constraint_finish : (r : Result Lengths Refusal) (o : Outputs) → IfOk r (λ (n : Lengths). Fit n o) → (work pool : ℕ)
    → ◌≡◌ {A = Outcome} (record { reply = constraint_reply r; slices = zeros work ∷ zeros pool ∷ cuts o (kept_of r) })
    (outcome (work ∷ pool ∷ []) (lengths_of o) (and_then (answer_of r) (λ (n : Lengths). result (words_of n o) [])))
unfolding and_then result outcome
constraint_finish (Ok n) o f work pool = λ i. record {
  reply = record { number = 0; place = 0; counts = counts_are o n f i; numbers = [] };
  slices = zeros work ∷ zeros pool ∷ cuts_padded o n i;
}
constraint_finish (Err q) o f work pool = λ i. record {
  reply = record { number = number_of q.reason; place = q.place; counts = []; numbers = [] };
  slices = zeros work ∷ zeros pool ∷ cuts_none o i;
}

-- Three slices are zeroed behind the words that stay.
abbrev CutTo : (kept : Lengths) (o : Outputs) (headers variables terms : List ℕ) → Type 0
CutTo kept o h v t = (h ≡ cut kept.headers o.headers.now) × (v ≡ cut kept.variables o.variables.now) × (t ≡ cut kept.terms o.terms.now)

module _ (ws : List ℕ) {work pool : ℕ} {o : LentOutputs} {r : Result Lengths Refusal}
    (are : ConstraintsAre (work ∷ pool ∷ []) o r (on_words ws constraints_of)) where
  pub constraint_done : {kept : Lengths} → kept ≡ kept_of r
      → {work' pool' : List ℕ} → work' ≡ zeros work → pool' ≡ zeros pool
      → {h v t : List ℕ} → CutTo kept (new o) h v t
      → constraint_outcome r work' pool' h v t ≡ constraint_call prime ws (work ∷ pool ∷ lengths_of (old o))
  unfolding constraint_call expansion
  constraint_done {kept} k ew ep (eh, ev, et) =
      (λ i. constraint_outcome r (ew i) (ep i) (eh i) (ev i) (et i))
      ∙ (λ i. constraint_outcome r (zeros work) (zeros pool)
      (cut (k i).headers (new o).headers.now) (cut (k i).variables (new o).variables.now) (cut (k i).terms (new o).terms.now))
      ∙ constraint_finish r (new o) are.inside work pool
      ∙ (λ i. outcome (work ∷ pool ∷ []) (are.same.lengths i) (are.answers i))

-- The same for the interaction call.
interaction_finish : (r : Result InteractionLengths Refusal) (a b : Outputs)
    → IfOk r (λ (n : InteractionLengths). Fit n.numerators a × Fit n.denominators b) → (work pool : ℕ)
    → ◌≡◌ {A = Outcome} (record {
      reply = interaction_reply r;
      slices = zeros work ∷ zeros pool ∷ (cuts a (both_kept r).numerators ++ cuts b (both_kept r).denominators);
    })
    (outcome (work ∷ pool ∷ []) (lengths_of a ++ lengths_of b) (and_then (answer_of r) (λ (n : InteractionLengths).
    result (words_of n.numerators a ++ words_of n.denominators b) (n.num_interactions ∷ n.max_fields_len ∷ []))))
unfolding and_then result outcome padded_all
interaction_finish (Ok n) a b f work pool = λ i. record {
  reply = record {
    number = 0;
    place = 0;
    counts = counts_are a n.numerators f.0 i ++ counts_are b n.denominators f.1 i;
    numbers = n.num_interactions ∷ n.max_fields_len ∷ [];
  };
  slices = zeros work ∷ zeros pool ∷ (cuts_padded a n.numerators i ++ cuts_padded b n.denominators i);
}
interaction_finish (Err q) a b f work pool = λ i. record {
  reply = record { number = number_of q.reason; place = q.place; counts = []; numbers = [] };
  slices = zeros work ∷ zeros pool ∷ (cuts_none a i ++ cuts_none b i);
}

module _ (ws : List ℕ) {work pool : ℕ} {a b : LentOutputs} {r : Result InteractionLengths Refusal}
    (are : InteractionsAre (work ∷ pool ∷ []) a b r (on_words ws interactions_of)) where
  pub interaction_done : {kept : InteractionLengths} → kept ≡ both_kept r
      → {work' pool' : List ℕ} → work' ≡ zeros work → pool' ≡ zeros pool
      → {h v t h₂ v₂ t₂ : List ℕ} → CutTo kept.numerators (new a) h v t → CutTo kept.denominators (new b) h₂ v₂ t₂
      → interaction_outcome r work' pool' h v t h₂ v₂ t₂
      ≡ interaction_call prime ws (work ∷ pool ∷ (lengths_of (old a) ++ lengths_of (old b)))
  unfolding interaction_call expansion
  interaction_done {kept} k ew ep (eh, ev, et) (eh₂, ev₂, et₂) =
      (λ i. interaction_outcome r (ew i) (ep i) (eh i) (ev i) (et i) (eh₂ i) (ev₂ i) (et₂ i))
      ∙ (λ i. interaction_outcome r (zeros work) (zeros pool)
      (cut (k i).numerators.headers (new a).headers.now) (cut (k i).numerators.variables (new a).variables.now)
      (cut (k i).numerators.terms (new a).terms.now)
      (cut (k i).denominators.headers (new b).headers.now) (cut (k i).denominators.variables (new b).variables.now)
      (cut (k i).denominators.terms (new b).terms.now))
      ∙ interaction_finish r (new a) (new b) are.inside work pool
      ∙ (λ i. outcome (work ∷ pool ∷ []) (are.numerators.lengths i ++ are.denominators.lengths i) (are.answers i))
