-- All that `sheetlist` prints is at most 42,728 bytes.
use mathlib.Core.List.{List, [], ◌∷◌, ◌++◌}
use Prim.Native.Nat.{ℕ, ◌+◌, ◌≤◌}
use native.Mathlib.Omega.{arith}
use lib.Dec.{eqb, leb}
use lib.ListN.{length, get_or, length-append}
use borrow.Author.Tests.{eqb-true}
use Rattle.semantics.specs.Arithmetic.{prime}
use Rattle.semantics.specs.Call.{Outcome, Accepted, handed_back, reader_call}
use Rattle.semantics.specs.Sheetlist.{line, dag_text, end_text, read_text, cons_text, inter_text, step, interaction_lines, constraint_lines, graph_lines, sheet_lines, sheetlist, constraint_step}
use Rattle.semantics.proofs.Basics.{by_test}
use Rattle.grouping.specs.declared.Family.TheVariants.{Constraints, Counts, Fields}
use Rattle.listing.specs.Families.{family_lines}
use Rattle.listing.proofs.Lengths.{dag_most, refused_most, end_length}
use Rattle.listing.proofs.Steps.{builds, rotates, expands_constraints, expands_interactions, dag_line}
use Rattle.listing.proofs.Handing.{constraints_handed, numerators_handed, denominators_handed}

-- A step's refusal, or what comes next.
step_most : (name : List ℕ) (o : Outcome) (rest : List ℕ) (n : ℕ) → 31 + length name ≤ n → (Accepted o → length rest ≤ n) → length (step name o rest) ≤ n
unfolding step
step_most name o rest n h k =
    by_test (λ (l : List ℕ). length l ≤ n) (eqb o.reply.number 0) (λ e. k (eqb-true o.reply.number 0 e))
    (λ e. omega (arith, refused_most name o.reply.number o.reply.place))

interactions_most : (graph : List ℕ) → Accepted (expands_interactions graph) → length (interaction_lines prime (expands_interactions graph)) ≤ 20163
unfolding interaction_lines
interactions_most graph a =
    let i = expands_interactions graph in
    let n : List ℕ = family_lines Counts (handed_back 2 i 0) (handed_back 2 i 1) (handed_back 2 i 2) in
    let d : List ℕ = family_lines Fields (handed_back 2 i 3) (handed_back 2 i 4) (handed_back 2 i 5) in
    omega (
      arith,
      length-append n (d ++ line (end_text ∷ [])),
      length-append d (line (end_text ∷ [])),
      end_length,
      (numerators_handed prime graph 4096 4096 512 512 512 128 171 (omega arith) (omega arith) a).most,
      (denominators_handed prime graph 4096 4096 512 512 512 128 171 (omega arith) (omega arith) a).most,
    )

constraints_most : (graph : List ℕ) → Accepted (expands_constraints graph) → length (constraint_lines prime graph (expands_constraints graph)) ≤ 42691
unfolding constraint_lines
constraints_most graph a =
    let c = expands_constraints graph in
    let i = expands_interactions graph in
    let m : List ℕ = family_lines Constraints (handed_back 2 c 0) (handed_back 2 c 1) (handed_back 2 c 2) in
    omega (
      arith,
      length-append m (step inter_text i (interaction_lines prime i)),
      step_most inter_text i (interaction_lines prime i) 20163 (omega arith) (interactions_most graph),
      (constraints_handed prime graph 4096 4096 1024 1024 1024 256 512 (omega arith) (omega arith) a).most,
    )

graph_most : (graph : List ℕ) → length (graph_lines prime graph) ≤ 42728
unfolding graph_lines
graph_most graph =
    let c = expands_constraints graph in
    let rotation = get_or (rotates graph).reply.numbers 0 0 in
    step_most dag_text (rotates graph) (dag_line graph rotation ++ constraint_step prime graph) 42728 (omega arith)
    (λ a. omega (
      arith,
      length-append (dag_line graph rotation) (constraint_step prime graph),
      dag_most (get_or graph 1 0) (get_or graph 2 0) rotation,
      step_most cons_text c (constraint_lines prime graph c) 42691 (omega arith) (constraints_most graph),
    ))

sheet_most : (sheet : List ℕ) → length (sheet_lines prime sheet) ≤ 42728
unfolding sheet_lines
sheet_most sheet =
    let b = builds sheet in
    step_most dag_text b (graph_lines prime (handed_back 1 b 0)) 42728 (omega arith) (λ a. graph_most (handed_back 1 b 0))

pub sheetlist_most : (bytes : List ℕ) → length (sheetlist prime bytes) ≤ 42728
unfolding sheetlist
sheetlist_most bytes =
    let r = reader_call bytes (1016 ∷ []) in
    by_test (λ (l : List ℕ). length l ≤ 42728) (leb (length bytes) 4096)
    (λ e. step_most read_text r (sheet_lines prime (handed_back 0 r 0)) 42728 (omega arith) (λ a. sheet_most (handed_back 0 r 0)))
    (λ e. omega (arith, refused_most read_text 1 0))
