-- What the answers of the expansions print.
use mathlib.Core.Path.{◌≡◌, sym, ap, subst, ◌∙◌}
use mathlib.Core.List.{List, [], ◌∷◌, ◌++◌}
use Prim.Native.Nat.{ℕ, ◌+◌, ◌<◌}
use native.Mathlib.Omega.{arith}
use lib.ListN.{length, get_or, take}
use Rattle.semantics.specs.Arithmetic.{prime}
use Rattle.semantics.specs.Call.{Outcome, Accepted, handed_back}
use Rattle.semantics.specs.Sheetlist.{decimal, line, refused_text, cons_text, inter_text, end_text, constraint_step, interaction_step}
use Rattle.std.specs.Prelude.{Result, Ok, Err}
use Rattle.answers.specs.declared.Refusal.{Refusal}
use Rattle.answers.specs.Replies.{number_of}
use Rattle.grouping.specs.declared.Family.{Family}
use Rattle.grouping.specs.declared.Family.TheVariants.{Constraints, Counts, Fields}
use Rattle.listing.specs.Families.{width_of, family_lines, HeadersInside}
use Rattle.listing.proofs.Steps.{expands_constraints, expands_interactions, step_on, constraint_prints, interaction_prints}
use Rattle.listing.proofs.Handing.{constraints_handed, numerators_handed, denominators_handed}
use Rattle.grouping.specs.declared.Lengths.{Lengths}
use Rattle.interaction_lists.specs.declared.InteractionLengths.{InteractionLengths}
use Rattle.expansion.specs.Answers.{constraint_outcome, interaction_outcome}
use Rattle.sheet_listing.specs.Fronts.{front_lines, Fronts}
use Rattle.sheet_listing.proofs.Sounds.{Sound, constraint_sound, interaction_sound, output_refused}

-- Lists handed back from k on, by a call whose scratch is work and pool.
module _ (family : Family) (o : Outcome) (s : Sound 2 o) (k : ℕ) (n : Lengths) (hs vs ts : List ℕ) (all : 2 + (2 + k) < length o.slices)
    (h : get_or o.reply.counts k 0 ≡ n.headers) (v : get_or o.reply.counts (1 + k) 0 ≡ n.variables) (t : get_or o.reply.counts (2 + k) 0 ≡ n.terms)
    (hs-are : get_or o.slices (2 + k) [] ≡ hs) (vs-are : get_or o.slices (2 + (1 + k)) [] ≡ vs) (ts-are : get_or o.slices (2 + (2 + k)) [] ≡ ts) where
  headers_back : handed_back 2 o k ≡ take n.headers hs
  unfolding handed_back
  headers_back = λ i. take (h i) (hs-are i)

  variables_back : handed_back 2 o (1 + k) ≡ take n.variables vs
  unfolding handed_back
  variables_back = λ i. take (v i) (vs-are i)

  terms_back : handed_back 2 o (2 + k) ≡ take n.terms ts
  unfolding handed_back
  terms_back = λ i. take (t i) (ts-are i)

  pub lines_back : family_lines family (handed_back 2 o k) (handed_back 2 o (1 + k)) (handed_back 2 o (2 + k)) ≡ front_lines family n hs vs ts
  lines_back = λ i. family_lines family (headers_back i) (variables_back i) (terms_back i)

  pub fronts : HeadersInside (width_of family) (handed_back 2 o k) (handed_back 2 o (1 + k)) (handed_back 2 o (2 + k)) → Fronts family n hs vs ts
  fronts inside = record {
    headers_fit = omega (arith, s.inside k (omega arith), h, ap length hs-are);
    variables_fit = omega (arith, s.inside (1 + k) (omega arith), v, ap length vs-are);
    terms_fit = omega (arith, s.inside (2 + k) (omega arith), t, ap length ts-are);
    inside = rw (← headers_back, ← variables_back, ← terms_back) inside;
  }

-- Constraints.
module _ (graph : List ℕ) (r : Result Lengths Refusal) (work pool hs vs ts : List ℕ) (e : constraint_outcome r work pool hs vs ts ≡ expands_constraints graph) where
  pub constraints_refused : (x : Refusal) → r ≡ Err x
      → line (refused_text ∷ cons_text ∷ decimal (number_of x.reason) ∷ decimal x.place ∷ []) ≡ constraint_step prime graph
  constraints_refused x q =
      let o : constraint_outcome (Err x) work pool hs vs ts ≡ expands_constraints graph = ap (λ a. constraint_outcome a work pool hs vs ts) (sym q) ∙ e in
      output_refused cons_text 2 (expands_constraints graph) _ x (constraint_sound prime graph 4096 4096 1024 1024 1024)
      (ap (λ (y : Outcome). y.reply) o) (subst (λ (y : Outcome). 2 < length y.slices) o (omega arith))

  module _ (n : Lengths) (q : r ≡ Ok n) where
    written : expands_constraints graph ≡ constraint_outcome (Ok n) work pool hs vs ts
    written = sym e ∙ ap (λ a. constraint_outcome a work pool hs vs ts) q

    accepted : Accepted (expands_constraints graph)
    accepted = ap (λ (u : Outcome). u.reply.number) written

    many : 4 < length (expands_constraints graph).slices
    many = omega (arith, ap (λ (u : Outcome). length u.slices) written)

    count : (k : ℕ) → get_or (expands_constraints graph).reply.counts k 0 ≡ get_or (n.headers ∷ n.variables ∷ n.terms ∷ []) k 0
    count k = ap (λ (u : Outcome). get_or u.reply.counts k 0) written

    slice : (k : ℕ) → get_or (expands_constraints graph).slices k [] ≡ get_or (work ∷ pool ∷ hs ∷ vs ∷ ts ∷ []) k []
    slice k = ap (λ (u : Outcome). get_or u.slices k []) written

    sound : Sound 2 (expands_constraints graph)
    sound = constraint_sound prime graph 4096 4096 1024 1024 1024

    constraint_fronts : Fronts Constraints n hs vs ts
    constraint_fronts =
        fronts Constraints (expands_constraints graph) sound 0 n hs vs ts many (count 0) (count 1) (count 2) (slice 2) (slice 3) (slice 4)
        (constraints_handed prime graph 4096 4096 1024 1024 1024 256 512 (omega arith) (omega arith) accepted).inside

    constraint_joins : front_lines Constraints n hs vs ts ++ interaction_step prime graph ≡ constraint_step prime graph
    constraint_joins =
        ap (λ (l : List ℕ). l ++ interaction_step prime graph)
        (sym (lines_back Constraints (expands_constraints graph) sound 0 n hs vs ts many (count 0) (count 1) (count 2) (slice 2) (slice 3) (slice 4)))
        ∙ constraint_prints graph (expands_constraints graph)
        ∙ step_on cons_text (expands_constraints graph) _ accepted

    pub constraints_written : Fronts Constraints n hs vs ts × (front_lines Constraints n hs vs ts ++ interaction_step prime graph ≡ constraint_step prime graph)
    constraints_written = (constraint_fronts, constraint_joins)

-- Interactions.
module _ (graph : List ℕ) (r : Result InteractionLengths Refusal) (work pool hs vs ts hs' vs' ts' : List ℕ)
    (e : interaction_outcome r work pool hs vs ts hs' vs' ts' ≡ expands_interactions graph) where
  both_sound : Sound 2 (expands_interactions graph)
  both_sound = interaction_sound prime graph 4096 4096 512 512 512 512 512 512

  pub interactions_refused : (x : Refusal) → r ≡ Err x
      → line (refused_text ∷ inter_text ∷ decimal (number_of x.reason) ∷ decimal x.place ∷ []) ≡ interaction_step prime graph
  interactions_refused x q =
      let o : interaction_outcome (Err x) work pool hs vs ts hs' vs' ts' ≡ expands_interactions graph =
      ap (λ a. interaction_outcome a work pool hs vs ts hs' vs' ts') (sym q) ∙ e in
      output_refused inter_text 2 (expands_interactions graph) _ x both_sound
      (ap (λ (y : Outcome). y.reply) o) (subst (λ (y : Outcome). 2 < length y.slices) o (omega arith))

  module _ (n : InteractionLengths) (q : r ≡ Ok n) where
    both_written : expands_interactions graph ≡ interaction_outcome (Ok n) work pool hs vs ts hs' vs' ts'
    both_written = sym e ∙ ap (λ a. interaction_outcome a work pool hs vs ts hs' vs' ts') q

    both_accepted : Accepted (expands_interactions graph)
    both_accepted = ap (λ (u : Outcome). u.reply.number) both_written

    eight : length (expands_interactions graph).slices ≡ 8
    eight = ap (λ (u : Outcome). length u.slices) both_written

    count_at : (k : ℕ) → get_or (expands_interactions graph).reply.counts k 0
        ≡ get_or (interaction_outcome (Ok n) work pool hs vs ts hs' vs' ts').reply.counts k 0
    count_at k = ap (λ (u : Outcome). get_or u.reply.counts k 0) both_written

    slice_at : (k : ℕ) → get_or (expands_interactions graph).slices k [] ≡ get_or (work ∷ pool ∷ hs ∷ vs ∷ ts ∷ hs' ∷ vs' ∷ ts' ∷ []) k []
    slice_at k = ap (λ (u : Outcome). get_or u.slices k []) both_written

    numerator_fronts : Fronts Counts n.numerators hs vs ts
    numerator_fronts =
        fronts Counts (expands_interactions graph) both_sound 0 n.numerators hs vs ts (omega (arith, eight)) (count_at 0) (count_at 1) (count_at 2) (slice_at 2) (slice_at 3) (slice_at 4)
        (numerators_handed prime graph 4096 4096 512 512 512 128 171 (omega arith) (omega arith) both_accepted).inside

    denominator_fronts : Fronts Fields n.denominators hs' vs' ts'
    denominator_fronts =
        fronts Fields (expands_interactions graph) both_sound 3 n.denominators hs' vs' ts' (omega (arith, eight)) (count_at 3) (count_at 4) (count_at 5) (slice_at 5) (slice_at 6) (slice_at 7)
        (denominators_handed prime graph 4096 4096 512 512 512 128 171 (omega arith) (omega arith) both_accepted).inside

    numerators_back : family_lines Counts (handed_back 2 (expands_interactions graph) 0) (handed_back 2 (expands_interactions graph) 1) (handed_back 2 (expands_interactions graph) 2)
        ≡ front_lines Counts n.numerators hs vs ts
    numerators_back =
        lines_back Counts (expands_interactions graph) both_sound 0 n.numerators hs vs ts (omega (arith, eight))
        (count_at 0) (count_at 1) (count_at 2) (slice_at 2) (slice_at 3) (slice_at 4)

    denominators_back : family_lines Fields (handed_back 2 (expands_interactions graph) 3) (handed_back 2 (expands_interactions graph) 4) (handed_back 2 (expands_interactions graph) 5)
        ≡ front_lines Fields n.denominators hs' vs' ts'
    denominators_back =
        lines_back Fields (expands_interactions graph) both_sound 3 n.denominators hs' vs' ts' (omega (arith, eight))
        (count_at 3) (count_at 4) (count_at 5) (slice_at 5) (slice_at 6) (slice_at 7)

    -- What numerators, denominators and the last line print.
    abbrev both_lines : List ℕ
    both_lines = front_lines Counts n.numerators hs vs ts ++ (front_lines Fields n.denominators hs' vs' ts' ++ line (end_text ∷ []))

    interaction_joins : both_lines ≡ interaction_step prime graph
    interaction_joins =
        (λ i. sym numerators_back i ++ (sym denominators_back i ++ line (end_text ∷ [])))
        ∙ interaction_prints (expands_interactions graph)
        ∙ step_on inter_text (expands_interactions graph) _ both_accepted

    pub interactions_written : Fronts Counts n.numerators hs vs ts × Fronts Fields n.denominators hs' vs' ts'
        × (both_lines ≡ interaction_step prime graph)
    interactions_written = (numerator_fronts, denominator_fronts, interaction_joins)
