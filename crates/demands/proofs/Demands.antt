-- Demand 3 from the contracts: the definitions' own demand, carried over the equations that the contracts promise.
use mathlib.Core.Path.{◌≡◌, refl, sym, ap, subst, ◌∙◌}
use mathlib.Core.List.{List, [], ◌∷◌}
use Prim.Native.Nat.{ℕ}
use lib.ListN.{take}
use Rattle.semantics.specs.Arithmetic.{prime}
use Rattle.semantics.specs.Call.{Outcome, Accepted, handed_back, builder_call, constraint_call, interaction_call}
use Rattle.semantics.specs.Demand.{GraphRule, ConstraintRule, InteractionRule, GraphConstraintRule, GraphInteractionRule}
use Rattle.semantics.proofs.Demands.{demand_prime}
use Rattle.std.specs.Prelude.{Result, Ok, Err}
use Rattle.answers.specs.declared.Refusal.{Refusal}
use Rattle.answers.specs.Replies.{count_of}
use Rattle.dag.specs.Calls.{built_outcome}
use Rattle.demands.specs.Demand.{GraphBuilt, ConstraintsExpanded, InteractionsExpanded, CallsDemand}

-- An answer's number is that of the definition's reply.
number_is : {o o' : Outcome} → o ≡ o' → Accepted o → Accepted o'
number_is e a = ap (λ (x : Outcome). x.reply.number) (sym e) ∙ a

-- The words that `build` hands back are the front of its output.
words_back : (r : Result ℕ Refusal) (scratch out : List ℕ) → handed_back 1 (built_outcome r scratch out) 0 ≡ take (count_of r) out
unfolding handed_back
words_back (Ok n) scratch out = refl
words_back (Err v) scratch out = refl

pub build_demand : (ws : List ℕ) (scratch-lent out-lent : ℕ) (r : Result ℕ Refusal) (scratch out : List ℕ)
    → built_outcome r scratch out ≡ builder_call prime ws (scratch-lent ∷ out-lent ∷ []) → GraphBuilt ws r out
build_demand ws scratch-lent out-lent r scratch out e a =
    let g = demand_prime.graph ws scratch-lent out-lent (number_is e a) in
    (g.0, g.1, subst (GraphRule prime g.0) (ap (λ (x : Outcome). handed_back 1 x 0) (sym e) ∙ words_back r scratch out) g.2)

pub constraints_demand : (ws : List ℕ) (work pool h v t : ℕ) (o : Outcome) → o ≡ constraint_call prime ws (work ∷ pool ∷ h ∷ v ∷ t ∷ []) → ConstraintsExpanded ws o
constraints_demand ws work pool h v t o e = record {
  own = λ a.
      let g = demand_prime.constraints ws work pool h v t (number_is e a) in
      (g.0, g.1, subst (ConstraintRule prime g.0) (sym e) g.2);
  source = λ a source s w.
      let f : constraint_call prime (handed_back 1 (builder_call prime source (w.scratch ∷ w.out ∷ [])) 0) (work ∷ pool ∷ h ∷ v ∷ t ∷ []) ≡ o =
      ap (λ (g : List ℕ). constraint_call prime g (work ∷ pool ∷ h ∷ v ∷ t ∷ [])) w.words ∙ sym e in
      subst (GraphConstraintRule prime s) f
      (demand_prime.graph_constraints source w.scratch w.out s w.accepted w.sheet work pool h v t (number_is (sym f) a));
}

pub interactions_demand : (ws : List ℕ) (work pool h v t h₂ v₂ t₂ : ℕ) (o : Outcome) → o ≡ interaction_call prime ws (work ∷ pool ∷ h ∷ v ∷ t ∷ h₂ ∷ v₂ ∷ t₂ ∷ [])
    → InteractionsExpanded ws o
interactions_demand ws work pool h v t h₂ v₂ t₂ o e = record {
  own = λ a.
      let g = demand_prime.interactions ws work pool h v t h₂ v₂ t₂ (number_is e a) in
      (g.0, g.1, subst (InteractionRule prime g.0) (sym e) g.2);
  source = λ a source s w.
      let f : interaction_call prime (handed_back 1 (builder_call prime source (w.scratch ∷ w.out ∷ [])) 0) (work ∷ pool ∷ h ∷ v ∷ t ∷ h₂ ∷ v₂ ∷ t₂ ∷ []) ≡ o =
      ap (λ (g : List ℕ). interaction_call prime g (work ∷ pool ∷ h ∷ v ∷ t ∷ h₂ ∷ v₂ ∷ t₂ ∷ [])) w.words ∙ sym e in
      subst (GraphInteractionRule prime s) f
      (demand_prime.graph_interactions source w.scratch w.out s w.accepted w.sheet work pool h v t h₂ v₂ t₂ (number_is (sym f) a));
}

pub demand : CallsDemand
demand = record {
  build = build_demand;
  constraints = λ ws work pool h v t r work' pool' h' v' t'. constraints_demand ws work pool h v t _;
  interactions = λ ws work pool h v t h₂ v₂ t₂ r work' pool' h' v' t' h₃ v₃ t₃. interactions_demand ws work pool h v t h₂ v₂ t₂ _;
}
