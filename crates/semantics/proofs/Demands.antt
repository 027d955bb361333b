-- Demand 3, proved for every modulus above 1.
use mathlib.Core.Path.{◌≡◌, refl, sym, ◌∙◌, ap, subst}
use mathlib.Core.List.{List, [], ◌∷◌, ◌++◌, map, flat_map, map-append}
use Prim.Native.Nat.{ℕ, suc, ◌*◌, ◌≤◌, ◌<◌}
use native.Mathlib.Omega.{arith}
use lib.Dec.{lit<}
use lib.ListN.{length, get_or}
use Rattle.semantics.specs.Answer.{Answer, good, and_then}
use Rattle.semantics.specs.Arithmetic.{prime}
use Rattle.semantics.specs.Sheet.{Interaction, Sheet, Inside, Each, GoodInteraction, encode, length_of}
use Rattle.semantics.specs.Check.{check}
use Rattle.semantics.specs.Value.{value_at}
use Rattle.semantics.specs.Walk.{Mem, Below, member, order}
use Rattle.semantics.specs.Graph.{graph_of, graph_roots}
use Rattle.semantics.specs.Monomial.{Monomial, list_at}
use Rattle.semantics.specs.Expand.{expand_all}
use Rattle.semantics.specs.Group.{Root, labelled, constraint_roots, count_roots, field_roots, Item, constraint_term, interaction_term, listed, layout}
use Rattle.semantics.specs.Call.{Outcome, Result, Accepted, handed_back, needs, result, on_sheet, builder_call, fitted, family, expansion_of, expansion, constraint_outputs}
use Rattle.semantics.specs.Call.{constraint_call, interaction_outputs, interaction_numbers, interaction_call}
use Rattle.semantics.specs.Refusals.{of_sheet, of_expansion}
use Rattle.semantics.specs.Demand.{Assignment, product_of, sum_of, of_constraint, of_count, of_field, second, first, Ascending, NonZero, no_interaction}
use Rattle.semantics.specs.Demand.{constraint_at, interaction_at, field_at, lists_from, GraphRule, ConstraintRule, InteractionRule, GraphConstraintRule, GraphInteractionRule, Demand}
use Rattle.semantics.specs.Lists.{All}
use Rattle.semantics.proofs.Members.{mem_left, mem_right, mem_here, mem_get_or, cons_below, append_below, flat_mem, flat_below, not_in}
use Rattle.semantics.proofs.Orders.{order_closed, order_roots, order_below, order_reached, order_all, order_distinct}
use Rattle.semantics.proofs.Records.{LowRecord, each_low}
use Rattle.semantics.proofs.Encoding.{check_inside, check_encode, good_injective}
use Rattle.semantics.proofs.GraphSheets.{named_below, interaction_facts, graph_roots_lem, graph_inside, graph_shorter, graph_nodes, constraint_place}
use Rattle.semantics.proofs.GraphSheets.{same_interactions, same_fields, constraint_kept, count_kept, field_kept}
use Rattle.semantics.proofs.Monomials.{val}
use Rattle.semantics.proofs.Combining.{Small}
use Rattle.semantics.proofs.Expansions.{walk_fine, lists_keep}
use Rattle.semantics.proofs.RecordLists.{lists_small}
use Rattle.semantics.proofs.Grouping.{laid, laid_ascends, laid_nonzero, constraint_wide, constraint_coef, interaction_wide, interaction_coef, constraint_sum, count_sum, field_sum}
use Rattle.semantics.proofs.Calls.{handed_back_lem}
use Rattle.semantics.proofs.Acceptance.{accepted_result, then_result, needs_result, fitted_result}
use Rattle.semantics.proofs.Refusals.{builder_within, expansion_within}

-- The records that roots name.
abbrev pub nodes : List Root → List ℕ
nodes roots = map (λ (r : Root). r.node) roots

labelled_nodes : {X : Type 0} (f : ℕ → X → List Root) (g : X → List ℕ) → ((n : ℕ) (x : X) → nodes (f n x) ≡ g x)
    → (n : ℕ) (xs : List X) → nodes (labelled f n xs) ≡ flat_map g xs
unfolding labelled flat_map
labelled_nodes f g h n [] = refl
labelled_nodes f g h n (x ∷ xs) =
    map-append (λ (r : Root). r.node) (f n x) (labelled f (suc n) xs)
    ∙ (λ i. h n x i ++ labelled_nodes f g h (suc n) xs i)

single : (xs : List ℕ) → flat_map (λ (c : ℕ). c ∷ []) xs ≡ xs
unfolding flat_map
single [] = refl
single (x ∷ xs) = ap (λ (l : List ℕ). x ∷ l) (single xs)

pub constraint_nodes : (s : Sheet) → nodes (constraint_roots s) ≡ s.constraints
unfolding constraint_roots
constraint_nodes s = labelled_nodes _ (λ (c : ℕ). c ∷ []) (λ n x. refl) 0 s.constraints ∙ single s.constraints

pub count_nodes : (s : Sheet) → nodes (count_roots s) ≡ flat_map (λ (x : Interaction). x.count ∷ []) s.interactions
unfolding count_roots
count_nodes s = labelled_nodes _ (λ (x : Interaction). x.count ∷ []) (λ n x. refl) 0 s.interactions

pub field_nodes : (s : Sheet) → nodes (field_roots s) ≡ flat_map (λ (x : Interaction). x.message) s.interactions
unfolding field_roots
field_nodes s =
    labelled_nodes _ (λ (x : Interaction). x.message)
    (λ n x. labelled_nodes _ (λ (c : ℕ). c ∷ []) (λ m c. refl) 0 x.message ∙ single x.message) 0 s.interactions

interaction_nodes : (s : Sheet) → nodes (count_roots s ++ field_roots s)
    ≡ flat_map (λ (x : Interaction). x.count ∷ []) s.interactions ++ flat_map (λ (x : Interaction). x.message) s.interactions
interaction_nodes s =
    map-append (λ (r : Root). r.node) (count_roots s) (field_roots s) ∙ (λ i. count_nodes s i ++ field_nodes s i)

module _ (p : ℕ) (s : Sheet) (w : Inside p s) where
  pub constraints_named : Below (length s.records) (nodes (constraint_roots s))
  constraints_named = rw (constraint_nodes s) (named_below (length s.records) s.constraints w.constraints)

  pub interactions_named : Below (length s.records) (nodes (count_roots s ++ field_roots s))
  interactions_named =
      let n : ℕ = length s.records in
      rw (interaction_nodes s)
      (append_below n _ _
      (flat_below n _ (λ i. GoodInteraction n) (λ i x u. cons_below n x.count [] (interaction_facts n x u).count (λ c m. not_in c m)) 0 s.interactions w.interactions)
      (flat_below n _ (λ i. GoodInteraction n) (λ i x u. (interaction_facts n x u).message) 0 s.interactions w.interactions))

constraint_in : (s : Sheet) (j : ℕ) → j < length s.constraints → Mem (constraint_at s j) (nodes (constraint_roots s))
unfolding constraint_at
constraint_in s j h = rw (constraint_nodes s) (mem_get_or s.constraints j h)

count_in : (s : Sheet) (i : ℕ) → i < length s.interactions → Mem (interaction_at s i).count (nodes (count_roots s ++ field_roots s))
unfolding interaction_at
count_in s i h =
    let c : ℕ = (interaction_at s i).count in
    rw (interaction_nodes s) (mem_left c _ _ (flat_mem (λ (x : Interaction). x.count ∷ []) s.interactions no_interaction i c h (mem_here c [])))

field_in : (s : Sheet) (i f : ℕ) → i < length s.interactions → f < length (interaction_at s i).message
    → Mem (field_at s i f) (nodes (count_roots s ++ field_roots s))
unfolding interaction_at field_at
field_in s i f h k =
    let c : ℕ = field_at s i f in
    rw (interaction_nodes s)
    (mem_right c (flat_map (λ (x : Interaction). x.count ∷ []) s.interactions) (flat_map (λ (x : Interaction). x.message) s.interactions)
    (flat_mem (λ (x : Interaction). x.message) s.interactions no_interaction i c h (mem_get_or (interaction_at s i).message f k)))

-- What an accepted expansion tells: its sheet, its walk, and the words that it hands back.
pub record Expanded (p : ℕ) (ws : List ℕ) (pool : ℕ) (roots : Sheet → List Root) (outputs : Sheet → List (List ℕ)) (o : Outcome) : Type 0 where
  pub sheet : Sheet
  pub checked : check p ws ≡ good sheet
  pub used : ℕ
  pub walked : expand_all p sheet.records pool (order sheet.records (nodes (roots sheet))) ≡ good used
  pub words : (k : ℕ) → handed_back 2 o k ≡ get_or (outputs sheet) k []

module _ (p : ℕ) (ws : List ℕ) (work pool : ℕ) (lent : List ℕ) (roots : Sheet → List Root) (outputs : Sheet → List (List ℕ)) (numbers : Sheet → List ℕ)
    (room : (s : Sheet) → length (outputs s) ≤ length lent) where
  walk : Sheet → Answer ℕ
  walk s = expand_all p s.records pool (order s.records (nodes (roots s)))

  after_pool : Sheet → Answer Result
  after_pool s = and_then (walk s) (λ used. fitted (outputs s) lent (numbers s))

  after_work : Sheet → Answer Result
  after_work s = needs 14 (2 * length s.records) pool (after_pool s)

  answer : Answer Result
  answer = on_sheet p ws (λ s. needs 14 4096 work (after_work s))

  abbrev pub call : Outcome
  call = expansion p ws (work ∷ pool ∷ lent) (expansion_of p (work ∷ pool ∷ lent) roots outputs numbers)

  pub expanded : Accepted call → Expanded p ws pool roots outputs call
  unfolding expansion expansion_of answer after_work after_pool walk on_sheet
  expanded a =
      let within = expansion_within p ws work pool lent roots outputs numbers in
      let r = accepted_result (work ∷ pool ∷ []) lent (of_sheet ++ of_expansion) answer (unfold member in refl) within a in
      let c = then_result (check p ws) (λ s. needs 14 4096 work (after_work s)) r.0 r.1 in
      let s : Sheet = c.0 in
      let n = needs_result 14 4096 work (after_work s) r.0 c.2 in
      let m = needs_result 14 (2 * length s.records) pool (after_pool s) r.0 n.1 in
      let u = then_result (walk s) (λ used. fitted (outputs s) lent (numbers s)) r.0 m.1 in
      let f = fitted_result (outputs s) lent (numbers s) r.0 u.2 in
      record {
        sheet = s;
        checked = c.1;
        used = u.0;
        walked = u.1;
        words = λ k. handed_back_lem (work ∷ pool ∷ []) lent answer r.0 r.1 k (subst (λ (q : Result). length q.outputs ≤ length lent) (sym f) (room s))
            ∙ ap (λ (q : Result). get_or q.outputs k []) f;
      }

-- The value of a root's list, where the walk accepted.
module _ (p : ℕ) (big : 1 < p) (s : Sheet) (w : Inside p s) (roots : List ℕ) (named : Below (length s.records) roots)
    (pool used : ℕ) (walked : expand_all p s.records pool (order s.records roots) ≡ good used) where
  pub root_value : (A : Assignment p) (c : ℕ) → Mem c roots
      → val p (product_of p A.at) (list_at p s.records c) ≡ value_at p A.at s.records c
  root_value A c m =
      let low = each_low p 0 s.records w.records in
      lists_keep p big A.at A.below s.records w.records (order s.records roots)
      (order_closed s.records low roots named) (order_below s.records low roots named)
      (walk_fine p s.records pool (order s.records roots) used walked) c (order_roots s.records low roots named c m)

-- The lists from output k on, where the outputs there are those of a family.
lists_laid : (p width k : ℕ) (s : Sheet) (o : Outcome) (term : Item → List ℕ) (roots : List Root) (outputs : List (List ℕ))
    → ((n : ℕ) → handed_back 2 o n ≡ get_or outputs n [])
    → get_or outputs k [] ≡ get_or (family p s term roots) 0 [] → get_or outputs (suc k) [] ≡ get_or (family p s term roots) 1 []
    → get_or outputs (suc (suc k)) [] ≡ get_or (family p s term roots) 2 []
    → lists_from width o k ≡ laid term width (list_at p s.records) roots
unfolding lists_from family layout
lists_laid p width k s o term roots outputs words h v t =
    λ i. listed width ((words k ∙ h) i) ((words (suc k) ∙ v) i) ((words (suc (suc k)) ∙ t) i)

-- The lists of roots have coefficients below p.
roots_small : (p : ℕ) → 1 < p → (s : Sheet) → Inside p s → (roots : List Root) → All (λ (r : Root). All (Small p) (list_at p s.records r.node)) roots
roots_small p big s w [] = tt
roots_small p big s w (r ∷ roots) = (lists_small p big s.records w.records r.node, roots_small p big s w roots)

module _ (p : ℕ) (big : 1 < p) where
  pub constraint_rule : (ws : List ℕ) (work pool h v t : ℕ) → Accepted (constraint_call p ws (work ∷ pool ∷ h ∷ v ∷ t ∷ []))
      → (s : Sheet) × (check p ws ≡ good s) × ConstraintRule p s (constraint_call p ws (work ∷ pool ∷ h ∷ v ∷ t ∷ []))
  unfolding constraint_call constraint_outputs family layout
  constraint_rule ws work pool h v t a =
      let o : Outcome = constraint_call p ws (work ∷ pool ∷ h ∷ v ∷ t ∷ []) in
      let e = expanded p ws work pool (h ∷ v ∷ t ∷ []) constraint_roots (constraint_outputs p) (λ s. []) (λ s. omega arith) a in
      let s : Sheet = e.sheet in
      let w = check_inside p ws s e.checked in
      let l : lists_from 2 o 0 ≡ laid constraint_term 2 (list_at p s.records) (constraint_roots s) =
      lists_laid p 2 0 s o constraint_term (constraint_roots s) (constraint_outputs p s) e.words refl refl refl in (
        s,
        e.checked,
        record {
          words = e.words;
          ascending = subst Ascending (sym l) (laid_ascends constraint_term 2 constraint_wide (list_at p s.records) (constraint_roots s));
          non_zero = subst (NonZero p second) (sym l)
              (laid_nonzero constraint_term 2 constraint_wide second constraint_coef p (list_at p s.records) (constraint_roots s) (roots_small p big s w (constraint_roots s)));
          value = λ A j b. ap (sum_of p A.at (of_constraint j) second) l ∙ constraint_sum p big A.at (list_at p s.records) s j b
              ∙ root_value p big s w (nodes (constraint_roots s)) (constraints_named p s w) pool e.used e.walked A (constraint_at s j) (constraint_in s j b);
        },
      )

  pub interaction_rule : (ws : List ℕ) (work pool h v t h' v' t' : ℕ) → Accepted (interaction_call p ws (work ∷ pool ∷ h ∷ v ∷ t ∷ h' ∷ v' ∷ t' ∷ []))
      → (s : Sheet) × (check p ws ≡ good s) × InteractionRule p s (interaction_call p ws (work ∷ pool ∷ h ∷ v ∷ t ∷ h' ∷ v' ∷ t' ∷ []))
  unfolding interaction_call interaction_outputs family layout
  interaction_rule ws work pool h v t h' v' t' a =
      let o : Outcome = interaction_call p ws (work ∷ pool ∷ h ∷ v ∷ t ∷ h' ∷ v' ∷ t' ∷ []) in
      let e = expanded p ws work pool (h ∷ v ∷ t ∷ h' ∷ v' ∷ t' ∷ []) (λ s. count_roots s ++ field_roots s) (interaction_outputs p)
      interaction_numbers (λ s. omega arith) a in
      let s : Sheet = e.sheet in
      let w = check_inside p ws s e.checked in
      let list : ℕ → List Monomial = list_at p s.records in
      let value = root_value p big s w (nodes (count_roots s ++ field_roots s)) (interactions_named p s w) pool e.used e.walked in
      let n : lists_from 3 o 0 ≡ laid interaction_term 3 list (count_roots s) =
      lists_laid p 3 0 s o interaction_term (count_roots s) (interaction_outputs p s) e.words refl refl refl in
      let d : lists_from 3 o 3 ≡ laid interaction_term 3 list (field_roots s) =
      lists_laid p 3 3 s o interaction_term (field_roots s) (interaction_outputs p s) e.words refl refl refl in (
        s,
        e.checked,
        record {
          words = e.words;
          ascending = (
            subst Ascending (sym n) (laid_ascends interaction_term 3 interaction_wide list (count_roots s)),
            subst Ascending (sym d) (laid_ascends interaction_term 3 interaction_wide list (field_roots s)),
          );
          non_zero = (
            subst (NonZero p first) (sym n)
                (laid_nonzero interaction_term 3 interaction_wide first interaction_coef p list (count_roots s) (roots_small p big s w (count_roots s))),
            subst (NonZero p first) (sym d)
                (laid_nonzero interaction_term 3 interaction_wide first interaction_coef p list (field_roots s) (roots_small p big s w (field_roots s))),
          );
          count = λ A i b. ap (sum_of p A.at (of_count i) first) n ∙ count_sum p big A.at list s i b ∙ value A (interaction_at s i).count (count_in s i b);
          field = λ A i f b c. ap (sum_of p A.at (of_field i f) first) d ∙ field_sum p big A.at list s i f b c ∙ value A (field_at s i f) (field_in s i f b c);
        },
      )

  -- The builder.
  builder_answer : List ℕ → ℕ → ℕ → Answer Result
  builder_answer ws scratch out =
      on_sheet p ws (λ s. needs 14 (length s.records) scratch (needs 15 (length_of s) out (result (encode (graph_of p s) ∷ []) [])))

  builder_words : (ws : List ℕ) (scratch out : ℕ) → Accepted (builder_call p ws (scratch ∷ out ∷ []))
      → (s : Sheet) × (check p ws ≡ good s) × (handed_back 1 (builder_call p ws (scratch ∷ out ∷ [])) 0 ≡ encode (graph_of p s))
  unfolding builder_call builder_answer on_sheet result
  builder_words ws scratch out a =
      let rest : Sheet → Answer Result = λ s. needs 14 (length s.records) scratch (needs 15 (length_of s) out (result (encode (graph_of p s) ∷ []) [])) in
      let within = builder_within p ws scratch out in
      let r = accepted_result (scratch ∷ []) (out ∷ []) (of_sheet ++ (14 ∷ 15 ∷ [])) (builder_answer ws scratch out) (unfold member in refl) within a in
      let c = then_result (check p ws) rest r.0 r.1 in
      let s : Sheet = c.0 in
      let n = needs_result 14 (length s.records) scratch _ r.0 c.2 in
      let m = needs_result 15 (length_of s) out _ r.0 n.1 in
      let q : record { outputs = encode (graph_of p s) ∷ []; numbers = [] } ≡ r.0 = good_injective m.1 in (
        s,
        c.1,
        handed_back_lem (scratch ∷ []) (out ∷ []) (builder_answer ws scratch out) r.0 r.1 0 (subst (λ (x : Result). length x.outputs ≤ 1) q (omega arith))
            ∙ ap (λ (x : Result). get_or x.outputs 0 []) (sym q),
      )

  graph_rule : (s : Sheet) (g : List ℕ) → Inside p s → g ≡ encode (graph_of p s) → GraphRule p s g
  graph_rule s g w e = record {
    words = e;
    sheet = ap (check p) e ∙ check_encode p (graph_of p s) (graph_inside p big s w);
    shorter = subst (λ (l : List ℕ). length l ≤ length_of s) (sym e) (unfold length_of in (graph_shorter p big s w));
    reached = record {
      once = order_distinct s.records (low s w) (graph_roots s) (graph_roots_lem p s w);
      only = order_reached s.records (low s w) (graph_roots s) (graph_roots_lem p s w);
      all = order_all s.records (low s w) (graph_roots s) (graph_roots_lem p s w);
    };
    nodes = graph_nodes p big s w;
    constraint = constraint_kept p big s w;
    place = constraint_place p big s w;
    interactions = same_interactions p big s w;
    fields = same_fields p big s w;
    count = count_kept p big s w;
    field = field_kept p big s w;
  }
    where
      low : (s : Sheet) → Inside p s → Each LowRecord 0 s.records
      low s w = each_low p 0 s.records w.records

  -- The expansions of the graph's words, against the source.
  module _ (s : Sheet) (w : Inside p s) (g : List ℕ) (e : check p g ≡ good (graph_of p s)) where
    graph_constraints_lem : (work pool h v t : ℕ) → Accepted (constraint_call p g (work ∷ pool ∷ h ∷ v ∷ t ∷ []))
        → GraphConstraintRule p s (constraint_call p g (work ∷ pool ∷ h ∷ v ∷ t ∷ []))
    graph_constraints_lem work pool h v t a =
        let r = constraint_rule g work pool h v t a in
        let rule = subst (λ (u : Sheet). ConstraintRule p u (constraint_call p g (work ∷ pool ∷ h ∷ v ∷ t ∷ []))) (good_injective (sym r.1 ∙ e)) r.2 in
        record {
          constraint = λ A j q b c d. rule.value A q c ∙ ap (value_at p A.at (graph_of p s).records) d ∙ constraint_kept p big s w A j b;
        }

    graph_interactions_lem : (work pool h v t h' v' t' : ℕ) → Accepted (interaction_call p g (work ∷ pool ∷ h ∷ v ∷ t ∷ h' ∷ v' ∷ t' ∷ []))
        → GraphInteractionRule p s (interaction_call p g (work ∷ pool ∷ h ∷ v ∷ t ∷ h' ∷ v' ∷ t' ∷ []))
    graph_interactions_lem work pool h v t h' v' t' a =
        let r = interaction_rule g work pool h v t h' v' t' a in
        let rule = subst (λ (u : Sheet). InteractionRule p u (interaction_call p g (work ∷ pool ∷ h ∷ v ∷ t ∷ h' ∷ v' ∷ t' ∷ []))) (good_injective (sym r.1 ∙ e)) r.2 in
        record {
          count = λ A i b. rule.count A i (omega (arith, same_interactions p big s w)) ∙ count_kept p big s w A i b;
          field = λ A i f b c.
              rule.field A i f (omega (arith, same_interactions p big s w)) (omega (arith, same_fields p big s w i b)) ∙ field_kept p big s w A i f b c;
        }

  -- The words that the builder hands back are the graph's.
  graph_checked : (ws : List ℕ) (scratch out : ℕ) (s : Sheet) → Accepted (builder_call p ws (scratch ∷ out ∷ [])) → check p ws ≡ good s
      → check p (handed_back 1 (builder_call p ws (scratch ∷ out ∷ [])) 0) ≡ good (graph_of p s)
  graph_checked ws scratch out s a c =
      let b = builder_words ws scratch out a in
      let q : b.0 ≡ s = good_injective (sym b.1 ∙ c) in
      (graph_rule s (handed_back 1 (builder_call p ws (scratch ∷ out ∷ [])) 0) (check_inside p ws s c) (b.2 ∙ ap (λ (u : Sheet). encode (graph_of p u)) q)).sheet

  -- Demand 3, whole.
  pub demand : Demand p
  demand = record {
    graph = λ ws scratch out a.
        let b = builder_words ws scratch out a in
        (b.0, b.1, graph_rule b.0 (handed_back 1 (builder_call p ws (scratch ∷ out ∷ [])) 0) (check_inside p ws b.0 b.1) b.2);
    constraints = constraint_rule;
    interactions = interaction_rule;
    graph_constraints = λ ws scratch out s a c.
        graph_constraints_lem s (check_inside p ws s c) (handed_back 1 (builder_call p ws (scratch ∷ out ∷ [])) 0) (graph_checked ws scratch out s a c);
    graph_interactions = λ ws scratch out s a c.
        graph_interactions_lem s (check_inside p ws s c) (handed_back 1 (builder_call p ws (scratch ∷ out ∷ [])) 0) (graph_checked ws scratch out s a c);
  }

-- For the prime of the calls.
pub demand_prime : Demand prime
demand_prime = demand prime (lit< tt)
