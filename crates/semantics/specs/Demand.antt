-- Demand 3, in full, over the words that the calls hand back (01, "For demand 3").
use Rattle.std.specs.Prelude.{◌≡◌, Bool, true, cond, ◌&&◌, List, [], ◌∷◌, ℕ, suc, ◌≤◌, ◌<◌, eqb, length, get_or}
use Rattle.semantics.specs.Lists.{AscendBy}
use Rattle.semantics.specs.Answer.{good}
use Rattle.semantics.specs.Arithmetic.{add_m, mul_m}
use Rattle.semantics.specs.Sheet.{Record, Interaction, Sheet, encode, length_of}
use Rattle.semantics.specs.Check.{check}
use Rattle.semantics.specs.Packing.{unpacked}
use Rattle.semantics.specs.Value.{Leaf, leaf_of, value_at}
use Rattle.semantics.specs.Walk.{children_at, member, order, Reaches, Distinct}
use Rattle.semantics.specs.Graph.{graph_of, graph_roots, built}
use Rattle.semantics.specs.Monomial.{BeforeVars}
use Rattle.semantics.specs.Group.{Listed, listed}
use Rattle.semantics.specs.Call.{Outcome, Accepted, handed_back, builder_call, constraint_call, interaction_call, constraint_outputs, interaction_outputs}

-- A value for every variable and row mark.
pub record Assignment (p : ℕ) : Type 0 where
  pub at : Leaf → ℕ
  pub below : (x : Leaf) → at x < p

-- "a variable (its entry, part, offset, column) or row mark, packed or not, has A's value": the product of some packed variables.
unfoldable pub product_of : (p : ℕ) → (Leaf → ℕ) → List ℕ → ℕ
product_of p A [] = 1
product_of p A (v ∷ vs) = mul_m p (A (leaf_of (unpacked v))) (product_of p A vs)

-- The terms of one header that carry what is asked for, each coefficient times the product of the header's variables.
unfoldable pub sum_terms : (p product : ℕ) (carries : List ℕ → Bool) (coefficient : List ℕ → ℕ) → List (List ℕ) → ℕ
sum_terms p product carries coefficient [] = 0
sum_terms p product carries coefficient (t ∷ ts) =
    add_m p (cond (carries t) (mul_m p (coefficient t) product) 0) (sum_terms p product carries coefficient ts)

-- The sum of the listed terms that carry what is asked for.
unfoldable pub sum_of : (p : ℕ) → (Leaf → ℕ) → (carries : List ℕ → Bool) (coefficient : List ℕ → ℕ) → List Listed → ℕ
sum_of p A carries coefficient [] = 0
sum_of p A carries coefficient (h ∷ hs) =
    add_m p (sum_terms p (product_of p A h.vars) carries coefficient h.terms) (sum_of p A carries coefficient hs)

-- A constraint's terms carry its place; a count's its interaction; a field's its interaction and its place in the message.
unfoldable pub of_constraint : ℕ → List ℕ → Bool
of_constraint j t = eqb (get_or t 0 0) j

unfoldable pub of_count : ℕ → List ℕ → Bool
of_count i t = eqb (get_or t 1 0) i

unfoldable pub of_field : ℕ → ℕ → List ℕ → Bool
of_field i f t = eqb (get_or t 1 0) i && eqb (get_or t 2 0) f

-- Where a term has its coefficient: second of a constraint term, first of an interaction term.
unfoldable pub second : List ℕ → ℕ
second t = get_or t 1 0

unfoldable pub first : List ℕ → ℕ
first t = get_or t 0 0

-- Headers strictly ascend.
abbrev pub Ascending : List Listed → Type 0
Ascending hs = AscendBy BeforeVars (λ (h : Listed). h.vars) hs

-- Each coefficient is a value, 1 to p − 1.
abbrev pub NonZeroTerms : (p : ℕ) → (List ℕ → ℕ) → List (List ℕ) → Type 0
NonZeroTerms p coefficient [] = Unit {0}
NonZeroTerms p coefficient (t ∷ ts) = (1 ≤ coefficient t) × (coefficient t < p) × NonZeroTerms p coefficient ts

abbrev pub NonZero : (p : ℕ) → (List ℕ → ℕ) → List Listed → Type 0
NonZero p coefficient [] = Unit {0}
NonZero p coefficient (h ∷ hs) = NonZeroTerms p coefficient h.terms × NonZero p coefficient hs

-- The records that a sheet names.
abbrev pub no_interaction : Interaction
no_interaction = record { bus = 0; weight = 0; count = 0; message = [] }

unfoldable pub constraint_at : Sheet → ℕ → ℕ
constraint_at s j = get_or s.constraints j 0

unfoldable pub interaction_at : Sheet → ℕ → Interaction
interaction_at s i = get_or s.interactions i no_interaction

unfoldable pub field_at : Sheet → ℕ → ℕ → ℕ
field_at s i f = get_or (interaction_at s i).message f 0

-- The three lists that an expansion wrote from output k on.
unfoldable pub lists_from : (width : ℕ) → Outcome → (k : ℕ) → List Listed
lists_from width o k = listed width (handed_back 2 o k) (handed_back 2 o (suc k)) (handed_back 2 o (suc (suc k)))

-- The records reached: an order has each of them once, and no others.
pub record ReachedRule (rs : List Record) (roots : List ℕ) : Type 0 where
  pub once : Distinct (order rs roots)
  pub only : (x : ℕ) → member x (order rs roots) ≡ true → (c : ℕ) × (member c roots ≡ true) × Reaches (children_at rs) c x
  pub all : (c x : ℕ) → member c roots ≡ true → Reaches (children_at rs) c x → member x (order rs roots) ≡ true

module _ (p : ℕ) where
  -- The graph keeps every value, and is no larger than what was reached.
  pub record GraphRule (s : Sheet) (graph : List ℕ) : Type 0 where
    pub words : graph ≡ encode (graph_of p s)
    pub sheet : check p graph ≡ good (graph_of p s)
    pub shorter : length graph ≤ length_of s
    pub reached : ReachedRule s.records (graph_roots s)
    pub nodes : length (graph_of p s).records ≤ length (order s.records (graph_roots s))
    pub constraint : (A : Assignment p) (j : ℕ) → j < length s.constraints
        → value_at p A.at (graph_of p s).records ((built p s).num (constraint_at s j)) ≡ value_at p A.at s.records (constraint_at s j)
    -- the place of a constraint's node in the graph's list
    pub place : (j : ℕ) → j < length s.constraints
        → (q : ℕ) × (q < length (graph_of p s).constraints) × (constraint_at (graph_of p s) q ≡ (built p s).num (constraint_at s j))
    pub interactions : length (graph_of p s).interactions ≡ length s.interactions
    pub fields : (i : ℕ) → i < length s.interactions → length (interaction_at (graph_of p s) i).message ≡ length (interaction_at s i).message
    pub count : (A : Assignment p) (i : ℕ) → i < length s.interactions
        → value_at p A.at (graph_of p s).records (interaction_at (graph_of p s) i).count ≡ value_at p A.at s.records (interaction_at s i).count
    pub field : (A : Assignment p) (i f : ℕ) → i < length s.interactions → f < length (interaction_at s i).message
        → value_at p A.at (graph_of p s).records (field_at (graph_of p s) i f) ≡ value_at p A.at s.records (field_at s i f)

  -- What an accepted constraint expansion of a sheet hands back.
  pub record ConstraintRule (s : Sheet) (o : Outcome) : Type 0 where
    pub words : (k : ℕ) → handed_back 2 o k ≡ get_or (constraint_outputs p s) k []
    pub ascending : Ascending (lists_from 2 o 0)
    pub non_zero : NonZero p second (lists_from 2 o 0)
    pub value : (A : Assignment p) (j : ℕ) → j < length s.constraints
        → sum_of p A.at (of_constraint j) second (lists_from 2 o 0) ≡ value_at p A.at s.records (constraint_at s j)

  -- What an accepted interaction expansion of a sheet hands back: numerators, then denominators.
  pub record InteractionRule (s : Sheet) (o : Outcome) : Type 0 where
    pub words : (k : ℕ) → handed_back 2 o k ≡ get_or (interaction_outputs p s) k []
    pub ascending : Ascending (lists_from 3 o 0) × Ascending (lists_from 3 o 3)
    pub non_zero : NonZero p first (lists_from 3 o 0) × NonZero p first (lists_from 3 o 3)
    pub count : (A : Assignment p) (i : ℕ) → i < length s.interactions
        → sum_of p A.at (of_count i) first (lists_from 3 o 0) ≡ value_at p A.at s.records (interaction_at s i).count
    pub field : (A : Assignment p) (i f : ℕ) → i < length s.interactions → f < length (interaction_at s i).message
        → sum_of p A.at (of_field i f) first (lists_from 3 o 3) ≡ value_at p A.at s.records (field_at s i f)

  -- The constraint expansion of the graph, against the source: a source constraint's terms carry its node's place in the graph's list.
  pub record GraphConstraintRule (s : Sheet) (o : Outcome) : Type 0 where
    pub constraint : (A : Assignment p) (j q : ℕ) → j < length s.constraints → q < length (graph_of p s).constraints
        → constraint_at (graph_of p s) q ≡ (built p s).num (constraint_at s j)
        → sum_of p A.at (of_constraint q) second (lists_from 2 o 0) ≡ value_at p A.at s.records (constraint_at s j)

  -- The interaction expansion of the graph, against the source.
  pub record GraphInteractionRule (s : Sheet) (o : Outcome) : Type 0 where
    pub count : (A : Assignment p) (i : ℕ) → i < length s.interactions
        → sum_of p A.at (of_count i) first (lists_from 3 o 0) ≡ value_at p A.at s.records (interaction_at s i).count
    pub field : (A : Assignment p) (i f : ℕ) → i < length s.interactions → f < length (interaction_at s i).message
        → sum_of p A.at (of_field i f) first (lists_from 3 o 3) ≡ value_at p A.at s.records (field_at s i f)

  -- Demand 3: for the words of any sheet and any lent lengths, each call by itself.
  pub record Demand : Type 0 where
    pub graph : (ws : List ℕ) (scratch out : ℕ) → Accepted (builder_call p ws (scratch ∷ out ∷ []))
        → (s : Sheet) × (check p ws ≡ good s) × GraphRule s (handed_back 1 (builder_call p ws (scratch ∷ out ∷ [])) 0)
    pub constraints : (ws : List ℕ) (work pool h v t : ℕ) → Accepted (constraint_call p ws (work ∷ pool ∷ h ∷ v ∷ t ∷ []))
        → (s : Sheet) × (check p ws ≡ good s) × ConstraintRule s (constraint_call p ws (work ∷ pool ∷ h ∷ v ∷ t ∷ []))
    pub interactions : (ws : List ℕ) (work pool h v t h' v' t' : ℕ) → Accepted (interaction_call p ws (work ∷ pool ∷ h ∷ v ∷ t ∷ h' ∷ v' ∷ t' ∷ []))
        → (s : Sheet) × (check p ws ≡ good s) × InteractionRule s (interaction_call p ws (work ∷ pool ∷ h ∷ v ∷ t ∷ h' ∷ v' ∷ t' ∷ []))
    -- of the graph's own words, from the same source
    pub graph_constraints : (ws : List ℕ) (scratch out : ℕ) (s : Sheet) → Accepted (builder_call p ws (scratch ∷ out ∷ [])) → check p ws ≡ good s
        → (work pool h v t : ℕ) → Accepted (constraint_call p (handed_back 1 (builder_call p ws (scratch ∷ out ∷ [])) 0) (work ∷ pool ∷ h ∷ v ∷ t ∷ []))
        → GraphConstraintRule s (constraint_call p (handed_back 1 (builder_call p ws (scratch ∷ out ∷ [])) 0) (work ∷ pool ∷ h ∷ v ∷ t ∷ []))
    pub graph_interactions : (ws : List ℕ) (scratch out : ℕ) (s : Sheet) → Accepted (builder_call p ws (scratch ∷ out ∷ [])) → check p ws ≡ good s
        → (work pool h v t h' v' t' : ℕ)
        → Accepted (interaction_call p (handed_back 1 (builder_call p ws (scratch ∷ out ∷ [])) 0) (work ∷ pool ∷ h ∷ v ∷ t ∷ h' ∷ v' ∷ t' ∷ []))
        → GraphInteractionRule s (interaction_call p (handed_back 1 (builder_call p ws (scratch ∷ out ∷ [])) 0) (work ∷ pool ∷ h ∷ v ∷ t ∷ h' ∷ v' ∷ t' ∷ []))
