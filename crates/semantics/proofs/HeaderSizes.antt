-- How large a header is: its variables are those of a monomial, and each root has at most one term of it, for the roots' lists ascend.
use mathlib.Core.Path.{◌≡◌, refl, sym, ◌∙◌, ap, subst}
use mathlib.Core.Bool.{Bool, true, false, cond}
use mathlib.Core.List.{List, [], ◌∷◌, ◌++◌, flat_map, map-append}
use Prim.Native.Nat.{ℕ, suc, ◌+◌, ◌*◌, ◌/◌, ◌≤◌}
use native.Mathlib.Omega.{arith}
use lib.Dec.{eqb}
use lib.ListN.{length, length-append, length-map}
use Rattle.slices.specs.Rows.{rows}
use Rattle.slices.proofs.Lists.{flat_length}
use Rattle.semantics.specs.Answer.{good}
use Rattle.semantics.specs.Sheet.{Interaction, Sheet, Inside, Each, GoodInteraction}
use Rattle.semantics.specs.Walk.{Mem, Below, order}
use Rattle.semantics.specs.Monomial.{Asc, Monomial, sort, list_at}
use Rattle.semantics.specs.Expand.{expand_all}
use Rattle.semantics.specs.Group.{Root, constraint_roots, count_roots, field_roots, Item, items_of, items, later, Group, push, split, groups, headers, layout}
use Rattle.semantics.specs.Call.{Outcome, handed_back, family, constraint_outputs, constraint_call, interaction_outputs, interaction_numbers, interaction_call}
use Rattle.semantics.specs.Refusals.{SmallHeaders, headers_of, HeaderSizes}
use Rattle.semantics.specs.Lists.{All}
use Rattle.semantics.proofs.Combining.{Above}
use Rattle.semantics.proofs.Basics.{by_test}
use Rattle.semantics.proofs.Order.{same_vars, same_vars_lem, same_not, same_is}
use Rattle.semantics.proofs.Sorting.{all_imply, sort_all, sort_same}
use Rattle.semantics.proofs.Members.{mem_here, mem_there, mem_left, mem_right}
use Rattle.semantics.proofs.Records.{each_low}
use Rattle.semantics.proofs.Orders.{order_below, order_roots}
use Rattle.semantics.proofs.Encoding.{check_inside, head_limits}
use Rattle.semantics.proofs.GraphSheets.{interaction_facts}
use Rattle.semantics.proofs.Expansions.{walk_fine}
use Rattle.semantics.proofs.RecordLists.{lists_ascend, Few, list_few}
use Rattle.semantics.proofs.Grouping.{headers_length, push_by, items_all}
use Rattle.semantics.proofs.Demands.{nodes, constraint_nodes, count_nodes, field_nodes, constraints_named, interactions_named, expanded}

-- How many of some items have the variables v.
unfoldable occurs : List ℕ → List Item → ℕ
occurs v [] = 0
occurs v (t ∷ ts) = cond (same_vars v t.vars) 1 0 + occurs v ts

occurs_cons : (v : List ℕ) (t : Item) (ts : List Item) → occurs v (t ∷ ts) ≡ cond (same_vars v t.vars) 1 0 + occurs v ts
unfolding occurs
occurs_cons v t ts = refl

occurs_append : (v : List ℕ) (ts us : List Item) → occurs v (ts ++ us) ≡ occurs v ts + occurs v us
unfolding occurs
occurs_append v [] us = omega arith
occurs_append v (t ∷ ts) us = omega (arith, occurs_append v ts us)

occurs_sort : (v : List ℕ) (ts : List Item) → occurs v (sort later ts) ≡ occurs v ts
occurs_sort v = sort_same later (occurs v) (λ t ts us e. simp occurs_cons (omega arith)) (λ t u ts. simp occurs_cons (omega arith))

-- A group has no more terms than items with its variables.
abbrev Counted : List Item → Group → Type 0
Counted ts g = length g.terms ≤ occurs g.vars ts

one_more : (v : List ℕ) (t : Item) (ts : List Item) → same_vars v t.vars ≡ true → occurs v (t ∷ ts) ≡ suc (occurs v ts)
one_more v t ts e = rw (occurs_cons v t ts, e) (omega arith)

no_fewer : (t : Item) (ts : List Item) (g : Group) → Counted ts g → Counted (t ∷ ts) g
no_fewer t ts g h = omega (arith, occurs_cons g.vars t ts)

push_counted : (t : Item) (ts : List Item) (gs : List Group) → All (Counted ts) gs → All (Counted (t ∷ ts)) (push t gs)
push_counted t ts [] h = unfold push in (omega (arith, one_more t.vars t ts (same_vars_lem t.vars)), tt)
push_counted t ts (g ∷ gs) h =
    let rest = all_imply (Counted ts) (Counted (t ∷ ts)) (no_fewer t ts) gs h.1 in
    push_by (All (Counted (t ∷ ts))) t g gs
    (λ e. (omega (arith, one_more t.vars t ts (same_vars_lem t.vars)), (no_fewer t ts g h.0, rest)))
    (λ e. (omega (arith, one_more g.vars t ts (subst (λ (v : List ℕ). same_vars g.vars v ≡ true) (sym e) (same_vars_lem g.vars))), rest))

split_counted : (ts : List Item) → All (Counted ts) (split ts)
unfolding split
split_counted [] = tt
split_counted (t ∷ ts) = push_counted t ts (split ts) (split_counted ts)

-- A list that ascends has each variable list once.
module _ (v : List ℕ) (r : Root) where
  none_above : (ms : List Monomial) → Above v ms → occurs v (items_of r ms) ≡ 0
  unfolding items_of
  none_above [] h = unfold occurs in refl
  none_above (m ∷ ms) h =
      let ih = none_above ms h.1 in
      by_test (λ (l : List Item). occurs v l ≡ 0) (eqb m.coef 0) (λ e. ih)
      (λ e. rw (occurs_cons, same_not v m.vars h.0) (omega arith))

  one_at_most : (ms : List Monomial) → Asc ms → occurs v (items_of r ms) ≤ 1
  unfolding items_of
  one_at_most [] h = unfold occurs in (omega arith)
  one_at_most (m ∷ ms) h =
      let ih = one_at_most ms h.1 in
      by_test (λ (l : List Item). occurs v l ≤ 1) (eqb m.coef 0) (λ e. ih) (λ e. rw occurs_cons (go (same_vars v m.vars) refl ih))
    where
      go : (t : Bool) → same_vars v m.vars ≡ t → occurs v (items_of r ms) ≤ 1 → cond t 1 0 + occurs v (items_of r ms) ≤ 1
      go true e ih = omega (arith, none_above ms (subst (λ (u : List ℕ). Above u ms) (sym (same_is v m.vars e)) h.0))
      go false e ih = omega arith

items_few : (v : List ℕ) (list : ℕ → List Monomial) → ((c : ℕ) → Asc (list c)) → (roots : List Root) → occurs v (items list roots) ≤ length roots
unfolding items flat_map
items_few v list asc [] = unfold occurs in (omega arith)
items_few v list asc (r ∷ roots) =
    rw (occurs_append v (items_of r (list r.node)) (items list roots))
    (omega (arith, one_at_most v r (list r.node) (asc r.node), items_few v list asc roots))

-- The variables of a group are those of an item.
abbrev FewVars : Group → Type 0
FewVars g = length g.vars ≤ 14

push_few : (t : Item) (gs : List Group) → length t.vars ≤ 14 → All FewVars gs → All FewVars (push t gs)
push_few t [] h k = unfold push in (h, tt)
push_few t (g ∷ gs) h k = push_by (All FewVars) t g gs (λ e. (h, k)) (λ e. k)

split_few : (ts : List Item) → All (λ (t : Item). length t.vars ≤ 14) ts → All FewVars (split ts)
unfolding split
split_few [] h = tt
split_few (t ∷ ts) h = push_few t (split ts) h.0 (split_few ts h.1)

-- The headers of groups, as rows.
rows_small : (gs : List Group) → All FewVars gs → All (λ (g : Group). length g.terms ≤ 64512) gs → (vo to : ℕ)
    → SmallHeaders (rows 4 (length gs) (headers vo to gs))
unfolding rows headers
rows_small [] h k vo to = tt
rows_small (g ∷ gs) h k vo to = ((h.0, k.0), rows_small gs h.1 k.1 (vo + length g.vars) (to + length g.terms))

module _ (list : ℕ → List Monomial) (roots : List Root) (asc : (c : ℕ) → Asc (list c)) (few : All (λ (r : Root). All Few (list r.node)) roots)
    (limit : length roots ≤ 64512) where
  terms_few : (g : Group) → Counted (sort later (items list roots)) g → length g.terms ≤ 64512
  terms_few g h = omega (arith, occurs_sort g.vars (items list roots), items_few g.vars list asc roots)

  groups_rows : SmallHeaders (rows 4 (length (groups list roots)) (headers 0 0 (groups list roots)))
  unfolding groups
  groups_rows =
      let sorted : List Item = sort later (items list roots) in
      rows_small (split sorted)
      (split_few sorted (sort_all later _ (items list roots) (items_all Few (λ (t : Item). length t.vars ≤ 14) (λ r m z h. h) list roots few)))
      (all_imply (Counted sorted) _ terms_few (split sorted) (split_counted sorted)) 0 0

  groups_small : SmallHeaders (rows 4 (length (headers 0 0 (groups list roots)) / 4) (headers 0 0 (groups list roots)))
  groups_small =
      let n = headers_length 0 0 (groups list roots) in
      let q : length (headers 0 0 (groups list roots)) / 4 ≡ length (groups list roots) = omega arith in
      rw q groups_rows

-- How many roots a sheet inside the limits has.
nodes_length : (roots : List Root) (ns : List ℕ) → nodes roots ≡ ns → length roots ≡ length ns
nodes_length roots ns e = sym (length-map roots (λ (r : Root). r.node)) ∙ ap length e

messages_short : (n i : ℕ) (xs : List Interaction) → Each (λ j. GoodInteraction n) i xs → length (flat_map (λ (x : Interaction). x.message) xs) ≤ 63 * length xs
unfolding flat_map
messages_short n i [] w = omega arith
messages_short n i (x ∷ xs) w =
    rw (length-append x.message (flat_map (λ (y : Interaction). y.message) xs))
    (omega (arith, (interaction_facts n x w.0).short, messages_short n (suc i) xs w.1))

module _ (p : ℕ) (s : Sheet) (w : Inside p s) where
  pub constraints_few : length (constraint_roots s) ≤ 64512
  constraints_few = omega (arith, nodes_length (constraint_roots s) s.constraints (constraint_nodes s), (head_limits s w.head).1)

  pub counts_few : length (count_roots s) ≤ 64512
  counts_few =
      let l = flat_length (λ (x : Interaction). x.count ∷ []) 1 (λ x. refl) s.interactions in
      omega (arith, nodes_length (count_roots s) _ (count_nodes s), (head_limits s w.head).2)

  pub fields_few : length (field_roots s) ≤ 64512
  fields_few =
      let l = messages_short (length s.records) 0 s.interactions w.interactions in
      omega (arith, nodes_length (field_roots s) _ (field_nodes s), (head_limits s w.head).2)

-- The lists of the roots of an accepted walk have at most 14 variables to a monomial.
module _ (p : ℕ) (s : Sheet) (w : Inside p s) (roots : List ℕ) (named : Below (length s.records) roots)
    (pool used : ℕ) (walked : expand_all p s.records pool (order s.records roots) ≡ good used) where
  root_few : (c : ℕ) → Mem c roots → All Few (list_at p s.records c)
  root_few c m =
      let low = each_low p 0 s.records w.records in
      let i = order_roots s.records low roots named c m in
      list_few p s.records w.records c (order_below s.records low roots named c i)
      (walk_fine p s.records pool (order s.records roots) used walked c i)

  roots_few : (rs : List Root) → ((c : ℕ) → Mem c (nodes rs) → Mem c roots) → All (λ (r : Root). All Few (list_at p s.records r.node)) rs
  roots_few [] h = tt
  roots_few (r ∷ rs) h = (root_few r.node (h r.node (mem_here r.node (nodes rs))), roots_few rs (λ c m. h c (mem_there c r.node (nodes rs) m)))

-- The headers in an output, from the roots of its family.
small_headers : (p : ℕ) (s : Sheet) (o : Outcome) (k : ℕ) (roots : List Root)
    → All (λ (r : Root). All Few (list_at p s.records r.node)) roots → length roots ≤ 64512
    → handed_back 2 o k ≡ headers 0 0 (groups (list_at p s.records) roots) → SmallHeaders (headers_of o k)
small_headers p s o k roots few limit e =
    subst (λ (hs : List ℕ). SmallHeaders (rows 4 (length hs / 4) hs)) (sym e)
    (groups_small (list_at p s.records) roots (lists_ascend p s.records) few limit)

pub header_sizes : (p : ℕ) → HeaderSizes p
unfolding constraint_call interaction_call constraint_outputs interaction_outputs family layout
header_sizes p = record {
  constraints = λ ws work pool h v t a.
      let e = expanded p ws work pool (h ∷ v ∷ t ∷ []) constraint_roots (constraint_outputs p) (λ s. []) (λ s. omega arith) a in
      let s : Sheet = e.sheet in
      let w = check_inside p ws s e.checked in
      small_headers p s _ 0 (constraint_roots s)
      (roots_few p s w (nodes (constraint_roots s)) (constraints_named p s w) pool e.used e.walked (constraint_roots s) (λ c m. m))
      (constraints_few p s w) (e.words 0);
  interactions = λ ws work pool h v t h' v' t' a.
      let e = expanded p ws work pool (h ∷ v ∷ t ∷ h' ∷ v' ∷ t' ∷ []) (λ s. count_roots s ++ field_roots s) (interaction_outputs p)
      interaction_numbers (λ s. omega arith) a in
      let s : Sheet = e.sheet in
      let w = check_inside p ws s e.checked in
      let few = roots_few p s w (nodes (count_roots s ++ field_roots s)) (interactions_named p s w) pool e.used e.walked in
      let both = map-append (λ (r : Root). r.node) (count_roots s) (field_roots s) in (
        small_headers p s _ 0 (count_roots s) (few (count_roots s) (λ c m. rw both (mem_left c (nodes (count_roots s)) (nodes (field_roots s)) m)))
            (counts_few p s w) (e.words 0),
        small_headers p s _ 3 (field_roots s) (few (field_roots s) (λ c m. rw both (mem_right c (nodes (count_roots s)) (nodes (field_roots s)) m)))
            (fields_few p s w) (e.words 3),
      );
}
