-- The graph of a sheet inside the limits is again a sheet inside the limits, no longer than its source, with the values of its source.
use mathlib.Core.Path.{◌≡◌, refl, sym, ◌∙◌, ap, subst}
use mathlib.Core.Logic.{◌⊎◌, inl, inr}
use mathlib.Core.Bool.{true, ◌&&◌}
use mathlib.Core.List.{List, [], ◌∷◌, ◌++◌, map, flat_map}
use Prim.Native.Nat.{ℕ, suc, ◌≤◌, ◌<◌}
use native.Mathlib.Omega.{arith}
use lib.Dec.{ltb, leb}
use lib.ListN.{length, get_or, replicate, length-append, length-map}
use borrow.Author.Tests.{ltb-true, ltb-false, leb-true, lt-ltb, le-leb}
use Rattle.semantics.specs.Lists.{All, AscendBy}
use Rattle.semantics.specs.Sheet.{Interaction, Sheet, interaction_words, head_words, length_of, place, refers, interaction_tests, head_tests, passes, Each, Named, GoodInteraction, Inside}
use Rattle.semantics.specs.Value.{Leaf, value_at}
use Rattle.semantics.specs.Walk.{Mem, Below, order}
use Rattle.semantics.specs.Graph.{graph_roots, built, insert_once, sorted_once, renamed, graph_of}
use Rattle.semantics.specs.Demand.{Assignment, no_interaction, constraint_at, interaction_at, field_at}
use Rattle.semantics.proofs.Basics.{by_test, and_true, true_and}
use Rattle.semantics.proofs.Members.{mem_here, mem_there, mem_cases, not_in, mem_left, mem_right, mem_either, mem_get_or, cons_below, append_below}
use Rattle.semantics.proofs.Members.{flat_mem, flat_below, place_of, mem_map, map_below}
use Rattle.semantics.proofs.Lists.{get_or_map}
use Rattle.semantics.proofs.Places.{place_most}
use Rattle.semantics.proofs.Encoding.{sheet_length, head_limits}
use Rattle.semantics.proofs.Records.{each_low}
use Rattle.semantics.proofs.Orders.{order_closed, order_roots, order_below, order_distinct, distinct_length}
use Rattle.semantics.proofs.Graphs.{Done, Good, build_good}

-- Words that name records are numbers below, and the other way round.
pub named_below : (n : ℕ) (ws : List ℕ) → Named n ws → Below n ws
unfolding passes
named_below n [] h x m = not_in x m
named_below n (w ∷ ws) h x m =
    let t = and_true (refers n w) (passes (replicate (length ws) (refers n)) ws) h in
    go t.0 (named_below n ws t.1 x) (mem_cases x w ws m)
  where
    go : refers n w ≡ true → (Mem x ws → x < n) → (x ≡ w) ⊎ Mem x ws → x < n
    go e ih (inl q) = unfold refers in (omega (arith, ltb-true w n e))
    go e ih (inr k) = ih k

pub below_named : (n : ℕ) (ws : List ℕ) → Below n ws → Named n ws
unfolding passes
below_named n [] h = refl
below_named n (w ∷ ws) h =
    true_and (refers n w) (passes (replicate (length ws) (refers n)) ws) (unfold refers in (lt-ltb w n (h w (mem_here w ws))))
    (below_named n ws (λ x m. h x (mem_there x w ws m)))

-- What the tests of an interaction and of the head say.
pub interaction_is : (n : ℕ) (x : Interaction)
    → passes (interaction_tests n (interaction_words x)) (interaction_words x)
    ≡ leb x.bus 65535 && (refers n x.count && (leb (length x.message) 63 && passes (replicate (length x.message) (refers n)) x.message))
unfolding interaction_tests interaction_words passes
interaction_is n x = refl

pub record InteractionFacts (n : ℕ) (x : Interaction) : Type 0 where
  pub bus : x.bus ≤ 65535
  pub count : x.count < n
  pub short : length x.message ≤ 63
  pub message : Below n x.message

pub interaction_facts : (n : ℕ) (x : Interaction) → GoodInteraction n x → InteractionFacts n x
unfolding refers
interaction_facts n x h =
    let t = and_true (leb x.bus 65535) _ (sym (interaction_is n x) ∙ h) in
    let u = and_true (refers n x.count) _ t.1 in
    let v = and_true (leb (length x.message) 63) _ u.1 in
    record { bus = leb-true _ _ t.0; count = ltb-true _ _ u.0; short = leb-true _ _ v.0; message = named_below n x.message v.1 }

pub facts_good : (n : ℕ) (x : Interaction) → InteractionFacts n x → GoodInteraction n x
unfolding refers
facts_good n x f =
    interaction_is n x
    ∙ true_and (leb x.bus 65535) _ (le-leb _ _ f.bus) (true_and (refers n x.count) _ (lt-ltb _ _ f.count)
    (true_and (leb (length x.message) 63) _ (le-leb _ _ f.short) (below_named n x.message f.message)))

pub head_is : (s : Sheet) → passes head_tests (head_words s) ≡ leb (length s.records) 4096 && (leb (length s.constraints) 1024 && (leb (length s.interactions) 1024 && true))
unfolding head_tests head_words passes
head_is s = refl

pub facts_head : (s : Sheet) → length s.records ≤ 4096 → length s.constraints ≤ 1024 → length s.interactions ≤ 1024
    → passes head_tests (head_words s) ≡ true
facts_head s e c i =
    head_is s ∙ true_and (leb (length s.records) 4096) _ (le-leb _ _ e)
    (true_and (leb (length s.constraints) 1024) _ (le-leb _ _ c) (true_and (leb (length s.interactions) 1024) _ (le-leb _ _ i) refl))

-- The roots of the builder name records.
interaction_below : (n : ℕ) (x : Interaction) → InteractionFacts n x → Below n (x.message ++ (x.count ∷ []))
interaction_below n x f = append_below n x.message (x.count ∷ []) f.message (cons_below n x.count [] f.count (λ y k. not_in y k))

pub graph_roots_lem : (p : ℕ) (s : Sheet) → Inside p s → Below (length s.records) (graph_roots s)
unfolding graph_roots
graph_roots_lem p s w x m = go (mem_either x s.constraints (flat_map (λ (z : Interaction). z.message ++ (z.count ∷ [])) s.interactions) m)
  where
    go : Mem x s.constraints ⊎ Mem x (flat_map (λ (z : Interaction). z.message ++ (z.count ∷ [])) s.interactions) → x < length s.records
    go (inl e) = named_below (length s.records) s.constraints w.constraints x e
    go (inr e) =
        flat_below (length s.records) (λ (z : Interaction). z.message ++ (z.count ∷ [])) (λ i. GoodInteraction (length s.records))
        (λ i z u. interaction_below (length s.records) z (interaction_facts (length s.records) z u)) 0 s.interactions w.interactions x e

-- Which records are roots.
pub constraint_root_lem : (s : Sheet) (c : ℕ) → Mem c s.constraints → Mem c (graph_roots s)
unfolding graph_roots
constraint_root_lem s c m = mem_left c s.constraints _ m

pub interaction_root : (s : Sheet) (i c : ℕ) → i < length s.interactions
    → Mem c ((interaction_at s i).message ++ ((interaction_at s i).count ∷ [])) → Mem c (graph_roots s)
unfolding graph_roots interaction_at
interaction_root s i c h m =
    mem_right c s.constraints _ (flat_mem (λ (x : Interaction). x.message ++ (x.count ∷ [])) s.interactions no_interaction i c h m)

-- Sorting once keeps the members, and adds none.
-- Where a number goes: in front, further on, or nowhere, for it is there.
by_once : (P : List ℕ → Type 0) (n x : ℕ) (xs : List ℕ)
    → (n < x → P (n ∷ x ∷ xs)) → (x < n → P (x ∷ insert_once n xs)) → (n ≡ x → P (x ∷ xs)) → P (insert_once n (x ∷ xs))
unfolding insert_once
by_once P n x xs f g h =
    by_test P (ltb n x) (λ e. f (ltb-true n x e))
    (λ e. by_test P (ltb x n) (λ k. g (ltb-true x n k)) (λ k. h (omega (arith, ltb-false n x e, ltb-false x n k))))

insert_length : (n : ℕ) (xs : List ℕ) → length (insert_once n xs) ≤ suc (length xs)
insert_length n [] = unfold insert_once in (omega arith)
insert_length n (x ∷ t) =
    let ih = insert_length n t in
    by_once (λ (l : List ℕ). length l ≤ suc (suc (length t))) n x t (λ e. omega arith) (λ e. omega arith) (λ e. omega arith)

pub sorted_length : (ns : List ℕ) → length (sorted_once ns) ≤ length ns
unfolding sorted_once
sorted_length [] = omega arith
sorted_length (n ∷ ns) = omega (arith, insert_length n (sorted_once ns), sorted_length ns)

insert_new : (n : ℕ) (xs : List ℕ) → Mem n (insert_once n xs)
insert_new n [] = unfold insert_once in (mem_here n [])
insert_new n (x ∷ t) =
    let ih = insert_new n t in
    by_once (Mem n) n x t (λ e. mem_here n (x ∷ t)) (λ e. mem_there n x (insert_once n t) ih)
    (λ e. subst (λ (z : ℕ). Mem z (x ∷ t)) (sym e) (mem_here x t))

insert_old : (y n : ℕ) (xs : List ℕ) → Mem y xs → Mem y (insert_once n xs)
insert_old y n [] = λ m. not_in y m
insert_old y n (x ∷ t) =
    let ih = insert_old y n t in
    λ m. by_once (Mem y) n x t (λ e. mem_there y n (x ∷ t) m) (λ e. keep_mem y x t (insert_once n t) ih m) (λ e. m)
  where
    keep_mem : (y x : ℕ) (t u : List ℕ) → (Mem y t → Mem y u) → Mem y (x ∷ t) → Mem y (x ∷ u)
    keep_mem y x t u f m = go (mem_cases y x t m)
      where
        go : (y ≡ x) ⊎ Mem y t → Mem y (x ∷ u)
        go (inl e) = subst (λ (z : ℕ). Mem z (x ∷ u)) (sym e) (mem_here x u)
        go (inr k) = mem_there y x u (f k)

pub sorted_has : (y : ℕ) (ns : List ℕ) → Mem y ns → Mem y (sorted_once ns)
unfolding sorted_once
sorted_has y [] m = m
sorted_has y (n ∷ ns) m = go (mem_cases y n ns m) (sorted_has y ns)
  where
    go : (y ≡ n) ⊎ Mem y ns → (Mem y ns → Mem y (sorted_once ns)) → Mem y (insert_once n (sorted_once ns))
    go (inl e) ih = subst (λ (z : ℕ). Mem z (insert_once n (sorted_once ns))) (sym e) (insert_new n (sorted_once ns))
    go (inr k) ih = insert_old y n (sorted_once ns) (ih k)

insert_below : (b n : ℕ) (xs : List ℕ) → n < b → Below b xs → Below b (insert_once n xs)
insert_below b n [] h = λ w. unfold insert_once in (cons_below b n [] h w)
insert_below b n (x ∷ t) h =
    let ih = insert_below b n t h in
    λ w. by_once (Below b) n x t (λ e. cons_below b n (x ∷ t) h w)
    (λ e. cons_below b x (insert_once n t) (w x (mem_here x t)) (ih (λ y m. w y (mem_there y x t m)))) (λ e. w)

pub sorted_below : (b : ℕ) (ns : List ℕ) → Below b ns → Below b (sorted_once ns)
unfolding sorted_once
sorted_below b [] w = w
sorted_below b (n ∷ ns) w = insert_below b n (sorted_once ns) (w n (mem_here n ns)) (sorted_below b ns (λ y m. w y (mem_there y n ns m)))

-- Lengths.
renamed_length : (f : ℕ → ℕ) (xs : List Interaction) → length (flat_map interaction_words (map (renamed f) xs)) ≡ length (flat_map interaction_words xs)
unfolding flat_map interaction_words renamed
renamed_length f [] = refl
renamed_length f (x ∷ xs) =
    let ih = renamed_length f xs in
    simp (length-append, length-map, ih)

-- Sorted once, numbers ascend strictly.
abbrev pub Over : ℕ → List ℕ → Type 0
Over n xs = All (λ (x : ℕ). n < x) xs

abbrev pub Ascends : List ℕ → Type 0
Ascends xs = AscendBy ◌<◌ (λ (x : ℕ). x) xs

over_less : (m n : ℕ) (xs : List ℕ) → m < n → Over n xs → Over m xs
over_less m n [] h k = tt
over_less m n (x ∷ xs) h k = (omega arith, over_less m n xs h k.1)

insert_over : (m n : ℕ) (xs : List ℕ) → m < n → Over m xs → Over m (insert_once n xs)
insert_over m n [] h = λ k. unfold insert_once in (h, tt)
insert_over m n (x ∷ t) h = let ih = insert_over m n t h in λ k. by_once (Over m) n x t (λ e. (h, k)) (λ e. (k.0, ih k.1)) (λ e. k)

insert_ascends : (n : ℕ) (xs : List ℕ) → Ascends xs → Ascends (insert_once n xs)
insert_ascends n [] = λ k. unfold insert_once in (tt, tt)
insert_ascends n (x ∷ t) =
    let ih = insert_ascends n t in
    λ k. by_once Ascends n x t (λ e. ((e, over_less n x t e k.0), k)) (λ e. (insert_over x n t e k.0, ih k.1)) (λ e. k)

pub sorted_ascends : (ns : List ℕ) → Ascends (sorted_once ns)
unfolding sorted_once
sorted_ascends [] = tt
sorted_ascends (n ∷ ns) = insert_ascends n (sorted_once ns) (sorted_ascends ns)

-- Interactions renamed to numbers below b.
renamed_each : (n b m : ℕ) (f : ℕ → ℕ) (xs : List Interaction) → Each (λ i. GoodInteraction n) m xs
    → ((c : ℕ) → Mem c (flat_map (λ (x : Interaction). x.message ++ (x.count ∷ [])) xs) → f c < b)
    → Each (λ i. GoodInteraction b) m (map (renamed f) xs)
unfolding flat_map renamed
renamed_each n b m f [] w h = tt
renamed_each n b m f (x ∷ xs) w h =
    let u = interaction_facts n x w.0 in
    let rest : List ℕ = flat_map (λ (z : Interaction). z.message ++ (z.count ∷ [])) xs in
    let here : (c : ℕ) → Mem c (x.message ++ (x.count ∷ [])) → f c < b = λ c k. h c (mem_left c (x.message ++ (x.count ∷ [])) rest k) in (
      facts_good b (renamed f x) (record {
        bus = u.bus;
        count = here x.count (mem_right x.count x.message (x.count ∷ []) (mem_here x.count []));
        short = rw (length-map x.message f) u.short;
        message = map_below b f x.message (λ c k. here c (mem_left c x.message (x.count ∷ []) k));
      }),
      renamed_each n b (suc m) f xs w.1 (λ c k. h c (mem_right c (x.message ++ (x.count ∷ [])) rest k)),
    )

module _ (p : ℕ) (big : 1 < p) (s : Sheet) (w : Inside p s) where
  -- The builder's state after the whole walk, under an assignment.
  pub graph_kept : (A : Leaf → ℕ) (small : (x : Leaf) → A x < p)
      → Good p big A small s.records w.records (built p s) (order s.records (graph_roots s))
  unfolding built
  graph_kept A small =
      build_good p big A small s.records w.records (order s.records (graph_roots s))
      (order_closed s.records (each_low p 0 s.records w.records) (graph_roots s) (graph_roots_lem p s w))
      (order_below s.records (each_low p 0 s.records w.records) (graph_roots s) (graph_roots_lem p s w))

  in_order : (c : ℕ) → Mem c (graph_roots s) → Mem c (order s.records (graph_roots s))
  in_order c m = order_roots s.records (each_low p 0 s.records w.records) (graph_roots s) (graph_roots_lem p s w) c m

  -- Which values are assigned does not matter to the graph.
  kept : Good p big (λ x. 0) (λ x. omega arith) s.records w.records (built p s) (order s.records (graph_roots s))
  kept = graph_kept (λ x. 0) (λ x. omega arith)

  num_below : (c : ℕ) → Mem c (graph_roots s) → (built p s).num c < length (built p s).nodes
  num_below c m = unfold Done in (kept.done c (in_order c m)).0

  pub graph_value : (A : Assignment p) (c : ℕ) → Mem c (graph_roots s)
      → value_at p A.at (graph_of p s).records ((built p s).num c) ≡ value_at p A.at s.records c
  unfolding graph_of
  graph_value A c m = unfold Done in ((graph_kept A.at A.below).done c (in_order c m)).1

  -- No more nodes than records reached, and so no more than records.
  pub graph_nodes : length (graph_of p s).records ≤ length (order s.records (graph_roots s))
  unfolding graph_of
  graph_nodes = kept.few

  pub graph_few : length (graph_of p s).records ≤ length s.records
  graph_few =
      omega (
        arith,
        graph_nodes,
        distinct_length (length s.records) (order s.records (graph_roots s))
            (order_distinct s.records (each_low p 0 s.records w.records) (graph_roots s) (graph_roots_lem p s w))
            (order_below s.records (each_low p 0 s.records w.records) (graph_roots s) (graph_roots_lem p s w)),
      )

  few_constraints : length (graph_of p s).constraints ≤ length s.constraints
  unfolding graph_of
  few_constraints = omega (arith, sorted_length (map (built p s).num s.constraints), length-map s.constraints (built p s).num)

  -- "The node numbers of the constraints are then sorted and repeats dropped."
  pub constraints_ascend : Ascends (graph_of p s).constraints
  unfolding graph_of
  constraints_ascend = sorted_ascends (map (built p s).num s.constraints)

  pub same_interactions : length (graph_of p s).interactions ≡ length s.interactions
  unfolding graph_of
  same_interactions = length-map s.interactions (renamed (built p s).num)

  pub graph_inside : Inside p (graph_of p s)
  graph_inside =
      let h = head_limits s w.head in
      record {
        head = facts_head (graph_of p s) (omega (arith, graph_few)) (omega (arith, few_constraints)) (omega (arith, same_interactions));
        records = unfold graph_of in kept.good;
        constraints = unfold graph_of in
            (below_named (length (built p s).nodes) (sorted_once (map (built p s).num s.constraints))
            (sorted_below (length (built p s).nodes) (map (built p s).num s.constraints)
            (map_below (length (built p s).nodes) (built p s).num s.constraints (λ c m. num_below c (constraint_root_lem s c m)))));
        interactions = unfold graph_of in
            (renamed_each (length s.records) (length (built p s).nodes) 0 (built p s).num s.interactions w.interactions
            (λ c m. num_below c (unfold graph_roots in (mem_right c s.constraints _ m))));
      }

  pub graph_shorter : length_of (graph_of p s) ≤ length_of s
  graph_shorter =
      omega (arith, sheet_length (graph_of p s), sheet_length s, few_records, few_constraints, same_words)
    where
      few_records : place 5 (length (graph_of p s).records) ≤ place 5 (length s.records)
      few_records = place_most 5 _ _ graph_few

      same_words : length (flat_map interaction_words (graph_of p s).interactions) ≡ length (flat_map interaction_words s.interactions)
      same_words = unfold graph_of in (renamed_length (built p s).num s.interactions)

  -- A constraint's node stands in the graph's list.
  pub constraint_place : (j : ℕ) → j < length s.constraints
      → (q : ℕ) × (q < length (graph_of p s).constraints) × (constraint_at (graph_of p s) q ≡ (built p s).num (constraint_at s j))
  unfolding constraint_at graph_of
  constraint_place j h =
      place_of ((built p s).num (get_or s.constraints j 0)) (sorted_once (map (built p s).num s.constraints))
      (sorted_has ((built p s).num (get_or s.constraints j 0)) (map (built p s).num s.constraints)
      (mem_map (built p s).num (get_or s.constraints j 0) s.constraints (mem_get_or s.constraints j h)))

  pub interaction_renamed : (i : ℕ) → i < length s.interactions → interaction_at (graph_of p s) i ≡ renamed (built p s).num (interaction_at s i)
  unfolding interaction_at graph_of
  interaction_renamed i h = get_or_map (renamed (built p s).num) s.interactions i no_interaction no_interaction h

  pub same_fields : (i : ℕ) → i < length s.interactions → length (interaction_at (graph_of p s) i).message ≡ length (interaction_at s i).message
  unfolding renamed
  same_fields i h = ap (λ (x : Interaction). length x.message) (interaction_renamed i h) ∙ length-map (interaction_at s i).message (built p s).num

  -- The values of constraints, counts and fields.
  pub constraint_kept : (A : Assignment p) (j : ℕ) → j < length s.constraints
      → value_at p A.at (graph_of p s).records ((built p s).num (constraint_at s j)) ≡ value_at p A.at s.records (constraint_at s j)
  unfolding constraint_at
  constraint_kept A j h = graph_value A (get_or s.constraints j 0) (constraint_root_lem s (get_or s.constraints j 0) (mem_get_or s.constraints j h))

  pub count_kept : (A : Assignment p) (i : ℕ) → i < length s.interactions
      → value_at p A.at (graph_of p s).records (interaction_at (graph_of p s) i).count ≡ value_at p A.at s.records (interaction_at s i).count
  unfolding renamed
  count_kept A i h =
      let c : ℕ = (interaction_at s i).count in
      ap (λ (x : Interaction). value_at p A.at (graph_of p s).records x.count) (interaction_renamed i h)
      ∙ graph_value A c (interaction_root s i c h (mem_right c (interaction_at s i).message (c ∷ []) (mem_here c [])))

  pub field_kept : (A : Assignment p) (i f : ℕ) → i < length s.interactions → f < length (interaction_at s i).message
      → value_at p A.at (graph_of p s).records (field_at (graph_of p s) i f) ≡ value_at p A.at s.records (field_at s i f)
  unfolding renamed field_at
  field_kept A i f h k =
      let c : ℕ = get_or (interaction_at s i).message f 0 in
      ap (λ (x : Interaction). value_at p A.at (graph_of p s).records (get_or x.message f 0)) (interaction_renamed i h)
      ∙ ap (value_at p A.at (graph_of p s).records) (get_or_map (built p s).num (interaction_at s i).message f 0 0 k)
      ∙ graph_value A c (interaction_root s i c h (mem_left c (interaction_at s i).message ((interaction_at s i).count ∷ []) (mem_get_or (interaction_at s i).message f k)))
