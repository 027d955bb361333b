-- Both families of the interactions: what is written of them, or the first slice that is too short.
use mathlib.Core.Path.{◌≡◌, refl, sym, ap, subst, ◌∙◌}
use mathlib.Core.List.{List, [], ◌∷◌, ◌++◌, map, map-append}
use Prim.Native.Nat.{ℕ, ◌+◌}
use native.Mathlib.Omega.{arith}
use lib.ListN.{length}
use Rattle.semantics.specs.Arithmetic.{prime}
use Rattle.semantics.specs.Answer.{Answer, good, refused}
use Rattle.semantics.specs.Sheet.{Sheet}
use Rattle.semantics.specs.Check.{read_sheet}
use Rattle.semantics.specs.Group.{Root, Group, count_roots, field_roots, interaction_term, layout}
use Rattle.semantics.specs.Call.{Result as Made, fitted, first_short, family, interaction_outputs, max_fields_len_of, interaction_numbers}
use Rattle.semantics.proofs.Demands.{count_nodes, field_nodes}
use Rattle.records.specs.Access.{counts_of, fields_of}
use Rattle.std.specs.Prelude.{Result, Ok, Err}
use Rattle.answers.specs.declared.Refusal.{Refusal}
use Rattle.answers.specs.Replies.{number_of}
use Rattle.grouping.specs.declared.Lengths.{Lengths}
use Rattle.grouping.specs.Families.{short_number, groups_of}
use Rattle.grouping.proofs.Slices.{short_number_some, later_none, later_short, first_none, first_short_lem}
use Rattle.constraint_lists.specs.declared.Outputs.{Outputs}
use Rattle.constraint_lists.specs.Lists.{lengths_of, words_of, Fit, SameSlices, GroupedAs}
use Rattle.constraint_lists.proofs.Steps.{fits, short, written, written_inside}

-- The roots of the interactions name their counts, then their fields.
pub named : (s : Sheet) → map (λ (r : Root). r.node) (count_roots s ++ field_roots s) ≡ counts_of s.interactions ++ fields_of s.interactions
named s = map-append (λ (r : Root). r.node) (count_roots s) (field_roots s) ∙ (λ i. count_nodes s i ++ field_nodes s i)

module _ (gs ks : List Group) (a b : Outputs) (numbers : List ℕ) where
  abbrev both : List (List ℕ)
  both = layout interaction_term gs ++ layout interaction_term ks

  abbrev lent : List ℕ
  lent = lengths_of a ++ lengths_of b

  -- A slice of the numerators is too short.
  counts_short : {q : Refusal} → GroupedAs 0 interaction_term gs a (Err q) → refused (number_of q.reason) q.place ≡ fitted both lent numbers
  unfolding layout
  counts_short (k, l) =
      let z : 0 + short_number k ≡ short_number k = omega arith in
      let n : first_short 1 (layout interaction_term gs) (lengths_of a) ≡ 0 → ⊥ = λ e. short_number_some k (sym l.0 ∙ e) in
      (λ i. refused (number_of (l.1 i).reason) (l.1 i).place) ∙ ap (refused 17) z
      ∙ short both lent numbers (short_number k)
      (first_short_lem 0 (layout interaction_term gs) (layout interaction_term ks) (lengths_of a) (lengths_of b) refl n ∙ l.0) (short_number_some k)

  module _ (m : Lengths) (first : GroupedAs 0 interaction_term gs a (Ok m)) where
    goes_on : first_short 1 both lent ≡ first_short 4 (layout interaction_term ks) (lengths_of b)
    unfolding layout
    goes_on = first_none 0 (layout interaction_term gs) (layout interaction_term ks) (lengths_of a) (lengths_of b) refl first.0

    -- A slice of the denominators is.
    fields_short : {q : Refusal} → GroupedAs 3 interaction_term ks b (Err q) → refused (number_of q.reason) q.place ≡ fitted both lent numbers
    fields_short (k, l) =
        let n : first_short 1 (layout interaction_term ks) (lengths_of b) ≡ 0 → ⊥ = λ e. short_number_some k (sym l.0 ∙ e) in
        (λ i. refused (number_of (l.1 i).reason) (l.1 i).place)
        ∙ short both lent numbers (3 + short_number k)
        (goes_on ∙ later_short 3 0 (layout interaction_term ks) (lengths_of b) n ∙ ap (λ (x : ℕ). 3 + x) l.0)
        (λ z. absurd (omega (arith, z)))

    both_written : (n : Lengths) → GroupedAs 3 interaction_term ks b (Ok n)
        → good (record { outputs = words_of m a ++ words_of n b; numbers = numbers }) ≡ fitted both lent numbers
    both_written n second =
        (λ i. good (record { outputs = written interaction_term gs a m first i ++ written interaction_term ks b n second i; numbers = numbers }))
        ∙ fits both lent numbers (goes_on ∙ later_none 3 0 (layout interaction_term ks) (lengths_of b) second.0)

-- The interactions of a checked sheet, once all is walked.
module _ (ws : List ℕ) {before₁ after₁ before₂ after₂ : Outputs} (numerators : SameSlices before₁ after₁) (denominators : SameSlices before₂ after₂) where
  abbrev sheet : Sheet
  sheet = read_sheet ws

  abbrev counts : List Group
  counts = groups_of ws (count_roots sheet)

  abbrev fields : List Group
  fields = groups_of ws (field_roots sheet)

  abbrev lists : Answer Made
  lists = fitted (interaction_outputs prime sheet) (lengths_of before₁ ++ lengths_of before₂) (interaction_numbers sheet)

  lent_is : fitted (layout interaction_term counts ++ layout interaction_term fields) (lengths_of after₁ ++ lengths_of after₂) (interaction_numbers sheet) ≡ lists
  unfolding interaction_outputs family
  lent_is = λ i. fitted (interaction_outputs prime sheet) (numerators.lengths i ++ denominators.lengths i) (interaction_numbers sheet)

  module _ (r : Result Lengths Refusal) (grouped : GroupedAs 0 interaction_term counts after₁ r) where
    pub counts_refused : {q : Refusal} → r ≡ Err q → refused (number_of q.reason) q.place ≡ lists
    counts_refused e =
        counts_short counts fields after₁ after₂ (interaction_numbers sheet) (subst (GroupedAs 0 interaction_term counts after₁) e grouped) ∙ lent_is

    module _ (m : Lengths) (first : r ≡ Ok m) (r₂ : Result Lengths Refusal) (grouped₂ : GroupedAs 3 interaction_term fields after₂ r₂) where
      written₁ : GroupedAs 0 interaction_term counts after₁ (Ok m)
      written₁ = subst (GroupedAs 0 interaction_term counts after₁) first grouped

      pub fields_refused : {q : Refusal} → r₂ ≡ Err q → refused (number_of q.reason) q.place ≡ lists
      fields_refused e =
          fields_short counts fields after₁ after₂ (interaction_numbers sheet) m written₁ (subst (GroupedAs 3 interaction_term fields after₂) e grouped₂)
          ∙ lent_is

      module _ (n : Lengths) (second : r₂ ≡ Ok n) where
        written₂ : GroupedAs 3 interaction_term fields after₂ (Ok n)
        written₂ = subst (GroupedAs 3 interaction_term fields after₂) second grouped₂

        pub all_written : {ni mf : ℕ} → ni ≡ length sheet.interactions → mf ≡ max_fields_len_of sheet
            → good (record { outputs = words_of m after₁ ++ words_of n after₂; numbers = ni ∷ mf ∷ [] }) ≡ lists
        all_written en em =
            (λ i. good (record { outputs = words_of m after₁ ++ words_of n after₂; numbers = en i ∷ em i ∷ [] }))
            ∙ both_written counts fields after₁ after₂ (interaction_numbers sheet) m written₁ n written₂ ∙ lent_is

        pub all_inside : Fit m after₁ × Fit n after₂
        all_inside = (written_inside interaction_term counts after₁ m written₁, written_inside interaction_term fields after₂ n written₂)
