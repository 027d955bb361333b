-- The printing as it goes on from step to step.
use mathlib.Core.Path.{◌≡◌, refl}
use mathlib.Core.List.{List, [], ◌∷◌, ◌++◌}
use Prim.Native.Nat.{ℕ}
use lib.ListN.{get_or}
use borrow.Author.Tests.{eq-eqb, ne_eqb}
use Rattle.semantics.specs.Arithmetic.{prime}
use Rattle.semantics.specs.Call.{Outcome, Accepted, handed_back, builder_call, max_rotation_call, constraint_call, interaction_call}
use Rattle.semantics.specs.Sheetlist.{decimal, line, dag_text, end_text, refused_text, step, interaction_lines, constraint_lines, graph_lines, sheet_lines, constraint_step, interaction_step}
use Rattle.grouping.specs.declared.Family.TheVariants.{Constraints, Counts, Fields}
use Rattle.listing.specs.Families.{family_lines}

-- An accepted step goes on, and a refused one ends the output.
module _ (name : List ℕ) (o : Outcome) (rest : List ℕ) where
  pub step_on : Accepted o → rest ≡ step name o rest
  unfolding step
  step_on a = rw (eq-eqb o.reply.number 0 a)

  pub step_refused : (Accepted o → ⊥) → line (refused_text ∷ name ∷ decimal o.reply.number ∷ decimal o.reply.place ∷ []) ≡ step name o rest
  unfolding step
  step_refused h = rw (ne_eqb o.reply.number 0 h)

-- The calls that are made.
abbrev pub builds : (sheet : List ℕ) → Outcome
builds sheet = builder_call prime sheet (1016 ∷ 1016 ∷ [])

abbrev pub rotates : (graph : List ℕ) → Outcome
rotates graph = max_rotation_call prime graph

abbrev pub expands_constraints : (graph : List ℕ) → Outcome
expands_constraints graph = constraint_call prime graph (4096 ∷ 4096 ∷ 1024 ∷ 1024 ∷ 1024 ∷ [])

abbrev pub expands_interactions : (graph : List ℕ) → Outcome
expands_interactions graph = interaction_call prime graph (4096 ∷ 4096 ∷ 512 ∷ 512 ∷ 512 ∷ 512 ∷ 512 ∷ 512 ∷ [])

-- What each prints.
pub interaction_prints : (o : Outcome) → family_lines Counts (handed_back 2 o 0) (handed_back 2 o 1) (handed_back 2 o 2)
    ++ (family_lines Fields (handed_back 2 o 3) (handed_back 2 o 4) (handed_back 2 o 5) ++ line (end_text ∷ []))
    ≡ interaction_lines prime o
unfolding interaction_lines
interaction_prints o = refl

pub constraint_prints : (graph : List ℕ) (o : Outcome) → family_lines Constraints (handed_back 2 o 0) (handed_back 2 o 1) (handed_back 2 o 2)
    ++ interaction_step prime graph
    ≡ constraint_lines prime graph o
unfolding constraint_lines
constraint_prints graph o = refl

-- The graph's line.
abbrev pub dag_line : (graph : List ℕ) (rotation : ℕ) → List ℕ
dag_line graph rotation = line (dag_text ∷ decimal (get_or graph 1 0) ∷ decimal (get_or graph 2 0) ∷ decimal rotation ∷ [])

pub graph_prints : (graph : List ℕ)
    → step dag_text (rotates graph) (dag_line graph (get_or (rotates graph).reply.numbers 0 0) ++ constraint_step prime graph) ≡ graph_lines prime graph
unfolding graph_lines
graph_prints graph = refl

pub sheet_prints : (sheet : List ℕ) → step dag_text (builds sheet) (graph_lines prime (handed_back 1 (builds sheet) 0)) ≡ sheet_lines prime sheet
unfolding sheet_lines
sheet_prints sheet = refl
