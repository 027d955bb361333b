-- The graph keeps every value, each node may stand where it stands, and there are no more nodes than records reached.
use mathlib.Core.Path.{◌≡◌, refl, sym, ◌∙◌, ap, subst}
use mathlib.Core.Logic.{◌⊎◌, inl, inr}
use mathlib.Core.Bool.{true}
use mathlib.Core.List.{List, [], ◌∷◌, ◌++◌}
use Prim.Native.Nat.{ℕ, suc, ◌≤◌, ◌<◌}
use native.Mathlib.Omega.{arith}
use native.Mathlib.Nat.{zero-add}
use lib.Dec.{eqb, ltb}
use lib.ListN.{length, get_or, length-append}
use borrow.Author.Tests.{eqb-true, eqb-false, ltb-true, ltb-false}
use Rattle.semantics.specs.Sheet.{Record, Each, GoodRecord}
use Rattle.semantics.specs.Value.{Leaf, Node, leaf, const, add, sub, neg, mul, node_of, no_record, record_at, node_value, value_at}
use Rattle.semantics.specs.Walk.{Mem, Closed, children, children_at}
use Rattle.semantics.specs.Graph.{Pick, present, make, equal_records, find, intern, Built, set_num, node_for, pick, take_in, add_record, build}
use Rattle.semantics.proofs.Basics.{by_test, and_true}
use Rattle.semantics.proofs.Members.{mem_here, mem_there, mem_cases, not_in}
use Rattle.semantics.proofs.Lists.{each_zero, each_snoc}
use Rattle.semantics.proofs.Records.{LowNode, LowRecord, low_more, good_low, each_low, Flat, flat_good, value_at_lem, value_old, value_new, value_small}
use Rattle.semantics.proofs.Rules.{GoodPick, add_good, sub_good, mul_good, neg_rule_good, pick_value, add_rule_value, sub_rule_value, mul_rule_value, neg_rule_value}

-- Equal in all five words is equal.
pub equal_is : (r s : Record) → equal_records r s ≡ true → r ≡ s
unfolding equal_records
equal_is r s h =
    let h4 = and_true _ _ h in
    let h3 = and_true _ _ h4.0 in
    let h2 = and_true _ _ h3.0 in
    let h1 = and_true _ _ h2.0 in
    let k = eqb-true _ _ h1.0 in
    let a = eqb-true _ _ h1.1 in
    let b = eqb-true _ _ h2.1 in
    let c = eqb-true _ _ h3.1 in
    let d = eqb-true _ _ h4.1 in
    λ i. record { kind = k i; a = a i; b = b i; c = c i; d = d i }

pub find_le : (r : Record) (ns : List Record) → find r ns ≤ length ns
unfolding find
find_le r [] = omega arith
find_le r (x ∷ xs) = let ih = find_le r xs in by_test (λ (k : ℕ). k ≤ suc (length xs)) (equal_records r x) (λ e. omega arith) (λ e. omega arith)

find_at : (r : Record) (ns : List Record) → find r ns < length ns → record_at ns (find r ns) ≡ r
unfolding find record_at
find_at r [] = λ h. absurd (omega arith)
find_at r (x ∷ t) =
    let ih = find_at r t in
    by_test (λ (k : ℕ). k < suc (length t) → get_or (x ∷ t) k no_record ≡ r) (equal_records r x) (λ e h. sym (equal_is r x e)) (λ e h. ih (omega arith))

-- What holds of interning, by whether the node is there.
by_intern : (P : List Record → Type 0) (r : Record) (ns : List Record)
    → (find r ns < length ns → P ns) → (find r ns ≡ length ns → P (ns ++ (r ∷ []))) → P (intern r ns)
unfolding intern
by_intern P r ns f g =
    by_test P (ltb (find r ns) (length ns)) (λ e. f (ltb-true _ _ e)) (λ e. g (omega (arith, find_le r ns, ltb-false (find r ns) (length ns) e)))

intern_length : (r : Record) (ns : List Record) → (length ns ≤ length (intern r ns)) × (length (intern r ns) ≤ suc (length ns))
intern_length r ns =
    by_intern (λ (l : List Record). (length ns ≤ length l) × (length l ≤ suc (length ns))) r ns
    (λ h. (omega arith, omega arith)) (λ h. simp length-append (omega arith, omega arith))

intern_has : (r : Record) (ns : List Record) → find r ns < length (intern r ns)
intern_has r ns = by_intern (λ (l : List Record). find r ns < length l) r ns (λ h. h) (λ h. simp length-append (omega arith))

intern_good : (p : ℕ) (r : Record) (ns : List Record) → Each (GoodRecord p) 0 ns → GoodRecord p (length ns) r → Each (GoodRecord p) 0 (intern r ns)
intern_good p r ns w h =
    by_intern (Each (GoodRecord p) 0) r ns (λ e. w)
    (λ e. each_snoc (GoodRecord p) 0 ns r w (subst (λ (k : ℕ). GoodRecord p k r) (sym (zero-add (length ns))) h))

module _ (p : ℕ) (A : Leaf → ℕ) where
  intern_old : (r : Record) (ns : List Record) (i : ℕ) → i < length ns → value_at p A (intern r ns) i ≡ value_at p A ns i
  intern_old r ns i h = by_intern (λ (l : List Record). value_at p A l i ≡ value_at p A ns i) r ns (λ e. refl) (λ e. value_old p A ns r i h)

  intern_value : (r : Record) (ns : List Record) → Each LowRecord 0 ns → value_at p A (intern r ns) (find r ns) ≡ node_value p A (node_of r) (value_at p A ns)
  intern_value r ns w =
      by_intern (λ (l : List Record). value_at p A l (find r ns) ≡ node_value p A (node_of r) (value_at p A ns)) r ns
      (λ e. value_at_lem p A ns w (find r ns) e ∙ ap (λ (q : Record). node_value p A (node_of q) (value_at p A ns)) (find_at r ns e))
      (λ e. ap (value_at p A (ns ++ (r ∷ []))) e ∙ value_new p A ns r)

left_child : (x y : ℕ) → Mem x (x ∷ y ∷ [])
left_child x y = mem_here x (y ∷ [])

right_child : (x y : ℕ) → Mem y (x ∷ y ∷ [])
right_child x y = mem_there y x (y ∷ []) (mem_here y [])

module _ (p : ℕ) (big : 1 < p) (A : Leaf → ℕ) (small : (x : Leaf) → A x < p) (rs : List Record) (ok : Each (GoodRecord p) 0 rs) where
  -- A record that is added: its node is there, with its value.
  unfoldable pub Done : Built → ℕ → Type 0
  Done b i = (b.num i < length b.nodes) × (value_at p A b.nodes (b.num i) ≡ value_at p A rs i)

  pub record Good (b : Built) (s : List ℕ) : Type 0 where
    pub good : Each (GoodRecord p) 0 b.nodes
    pub few : length b.nodes ≤ length s
    pub done : (i : ℕ) → Mem i s → Done b i

  module _ (b : Built) (s : List ℕ) (kept : Good b s) (i : ℕ) where
    put_good : (ns : List Record) (k : ℕ) → Each (GoodRecord p) 0 ns → length b.nodes ≤ length ns → length ns ≤ suc (length b.nodes)
        → ((j : ℕ) → j < length b.nodes → value_at p A ns j ≡ value_at p A b.nodes j)
        → k < length ns → value_at p A ns k ≡ value_at p A rs i → Good (record { nodes = ns; num = set_num i k b.num }) (i ∷ s)
    unfolding set_num Done
    put_good ns k w g g' o h e = record {
      good = w;
      few = omega (arith, kept.few);
      done = λ j m. by_test (λ (c : ℕ). (c < length ns) × (value_at p A ns c ≡ value_at p A rs j)) (eqb j i)
          (λ t. (h, e ∙ ap (value_at p A rs) (sym (eqb-true j i t))))
          (λ t. earlier j (eqb-false j i t) (mem_cases j i s m));
    }
      where
        earlier : (j : ℕ) → (j ≡ i → ⊥) → (j ≡ i) ⊎ Mem j s → (b.num j < length ns) × (value_at p A ns (b.num j) ≡ value_at p A rs j)
        earlier j t (inl q) = absurd (t q)
        earlier j t (inr m) =
            let d = kept.done j m in
            (omega arith, o (b.num j) d.0 ∙ d.1)

    take_good : (q : Pick) → GoodPick p (length b.nodes) q → pick_value p A (value_at p A b.nodes) q ≡ value_at p A rs i → Good (take_in b i q) (i ∷ s)
    unfolding take_in pick_value
    take_good (present k) h e = put_good b.nodes k kept.good (omega arith) (omega arith) (λ j l. refl) h e
    take_good (make r) h e =
        put_good (intern r b.nodes) (find r b.nodes) (intern_good p r b.nodes kept.good h)
        (intern_length r b.nodes).0 (intern_length r b.nodes).1
        (λ j l. intern_old p A r b.nodes j l) (intern_has r b.nodes)
        (intern_value p A r b.nodes (each_low p 0 b.nodes kept.good) ∙ e)

    -- The built node of a child.
    child_value : (x : ℕ) → Mem x s → value_at p A b.nodes (b.num x) ≡ node_value p A (node_for b x) (value_at p A b.nodes)
    unfolding node_for Done
    child_value x m = value_at_lem p A b.nodes (each_low p 0 b.nodes kept.good) (b.num x) (kept.done x m).0

    child_low : (x : ℕ) → Mem x s → LowNode (length b.nodes) (node_for b x)
    unfolding node_for Done record_at
    child_low x m =
        low_more (b.num x) (length b.nodes) (node_of (get_or b.nodes (b.num x) no_record)) (omega (arith, (kept.done x m).0))
        (good_low p (b.num x) (get_or b.nodes (b.num x) no_record) (each_zero (GoodRecord p) b.nodes (b.num x) no_record kept.good (kept.done x m).0))

    pick_good : (r : Record) → GoodRecord p i r → (k : Node) → k ≡ node_of r → ((c : ℕ) → Mem c (children k) → Mem c s)
        → GoodPick p (length b.nodes) (pick p b r k)
    unfolding pick children Done
    pick_good r u (leaf x) e h = flat_good p i (length b.nodes) r u (subst Flat e tt)
    pick_good r u (const c) e h = flat_good p i (length b.nodes) r u (subst Flat e tt)
    pick_good r u (add x y) e h =
        add_good p big (length b.nodes) (b.num x) (b.num y) (node_for b x) (node_for b y) r.c
        (kept.done x (h x (left_child x y))).0 (kept.done y (h y (right_child x y))).0 (child_low y (h y (right_child x y)))
    pick_good r u (sub x y) e h =
        sub_good p big (length b.nodes) (b.num x) (b.num y) (node_for b x) (node_for b y) r.c
        (kept.done x (h x (left_child x y))).0 (kept.done y (h y (right_child x y))).0 (child_low y (h y (right_child x y)))
    pick_good r u (neg x) e h =
        neg_rule_good p big (length b.nodes) (b.num x) (node_for b x) r.c (kept.done x (h x (mem_here x []))).0
    pick_good r u (mul x y) e h =
        mul_good p big (length b.nodes) (b.num x) (b.num y) (node_for b x) (node_for b y) r.c
        (kept.done x (h x (left_child x y))).0 (kept.done y (h y (right_child x y))).0 (child_low y (h y (right_child x y)))

    values_small : (j : ℕ) → value_at p A b.nodes j < p
    values_small = value_small p big A small b.nodes kept.good

    pick_value_lem : (r : Record) (k : Node) → k ≡ node_of r → ((c : ℕ) → Mem c (children k) → Mem c s)
        → pick_value p A (value_at p A b.nodes) (pick p b r k) ≡ node_value p A k (value_at p A rs)
    unfolding pick children Done
    pick_value_lem r (leaf x) e h = unfold pick_value node_value in (ap (λ (q : Node). node_value p A q (value_at p A b.nodes)) (sym e))
    pick_value_lem r (const c) e h = unfold pick_value node_value in (ap (λ (q : Node). node_value p A q (value_at p A b.nodes)) (sym e))
    pick_value_lem r (add x y) e h =
        let hx = h x (left_child x y) in
        let hy = h y (right_child x y) in
        add_rule_value p big A (value_at p A b.nodes) values_small (b.num x) (b.num y) (node_for b x) (node_for b y) r.c (child_value x hx) (child_value y hy)
        ∙ rw ((kept.done x hx).1, (kept.done y hy).1) (unfold node_value in refl)
    pick_value_lem r (sub x y) e h =
        let hx = h x (left_child x y) in
        let hy = h y (right_child x y) in
        sub_rule_value p big A (value_at p A b.nodes) values_small (b.num x) (b.num y) (node_for b x) (node_for b y) r.c (child_value x hx) (child_value y hy)
        ∙ rw ((kept.done x hx).1, (kept.done y hy).1) (unfold node_value in refl)
    pick_value_lem r (neg x) e h =
        let hx = h x (mem_here x []) in
        neg_rule_value p A (value_at p A b.nodes) (b.num x) (node_for b x) r.c (child_value x hx) ∙ rw (kept.done x hx).1 (unfold node_value in refl)
    pick_value_lem r (mul x y) e h =
        let hx = h x (left_child x y) in
        let hy = h y (right_child x y) in
        mul_rule_value p big A (value_at p A b.nodes) values_small (b.num x) (b.num y) (node_for b x) (node_for b y) r.c (child_value x hx) (child_value y hy)
        ∙ rw ((kept.done x hx).1, (kept.done y hy).1) (unfold node_value in refl)

    add_kept : i < length rs → ((c : ℕ) → Mem c (children_at rs i) → Mem c s) → Good (add_record p rs b i) (i ∷ s)
    unfolding add_record children_at
    add_kept l h =
        let r : Record = record_at rs i in
        take_good (pick p b r (node_of r))
        (pick_good r (unfold record_at in (each_zero (GoodRecord p) rs i no_record ok l)) (node_of r) refl h)
        (pick_value_lem r (node_of r) refl h ∙ sym (value_at_lem p A rs (each_low p 0 rs ok) i l))

  -- In an order that has children before parents, each record's node has the record's value.
  pub build_good : (s : List ℕ) → Closed (children_at rs) s → ((i : ℕ) → Mem i s → i < length rs) → Good (build p rs s) s
  unfolding build
  build_good [] k h = record { good = tt; few = omega arith; done = λ i m. not_in i m }
  build_good (i ∷ s) k h =
      add_kept (build p rs s) s (build_good s k.1 (λ j m. h j (mem_there j i s m))) i (h i (mem_here i s)) k.0
