-- The rule for a record, from the words of the sheet, scratch and output.
use mathlib.Core.Path.{◌≡◌, refl, sym, ap, ◌∙◌}
use mathlib.Core.List.{List, [], ◌∷◌}
use Prim.Native.Nat.{ℕ, suc, ◌+◌, ◌-◌, ◌≤◌, ◌<◌}
use native.Mathlib.Omega.{arith}
use lib.ListN.{length, get_or}
use Rattle.semantics.specs.Arithmetic.{prime}
use Rattle.semantics.specs.Sheet.{Record, place}
use Rattle.semantics.specs.Value.{Leaf, Node, leaf, const, add, sub, neg, mul, node_of, record_at}
use Rattle.semantics.specs.Walk.{Mem, children, children_at}
use Rattle.semantics.specs.Graph as graph
use Rattle.semantics.specs.Graph.{Built, node_for, pick, add_rule, sub_rule, neg_rule, mul_rule}
use Rattle.semantics.proofs.Members.{mem_here, mem_there}
use Rattle.semantics.proofs.Places.{place_below}
use Rattle.semantics.proofs.Orders.{distinct_length}
use Rattle.records.specs.declared.Record as declared
use Rattle.records.specs.Access.{five_words, node_in, records_of}
use Rattle.records.specs.Nodes.{shown_node}
use Rattle.records.specs.Orders.{Order, There}
use Rattle.records.proofs.Steps.{child_low}
use Rattle.records.proofs.Visits.{is, c_is, node_is, child_of}
use Rattle.nodes.specs.declared.rules.Child.{Child}
use Rattle.nodes.specs.Memory.{built_of}
use Rattle.nodes.proofs.NodeLaws.{node_in_lem}
use Rattle.nodes.proofs.States as states
use Rattle.graph_walk.specs.declared.Walk.{Walk}
use Rattle.graph_walk.specs.Walking.{State, Adding, Reads, pick_of_record}

-- What is known when the node of record r is picked: its words q, that it is m, and that its children are added.
pub record Picking (w : Walk) (r : ℕ) (q : declared.Record) (m : Node) (done : List ℕ) : Type 0 where
  pub inside : r < length (records_of w.sheet.words.now)
  pub words_are : five_words q ≡ node_in w.sheet.words.now r
  pub node_is : m ≡ node_of (five_words q)
  pub order : Order w.sheet.words.now done
  pub there : There w.sheet.words.now r done
  pub holds : State w done

-- The same of any order of which the state holds, and of the one that is asked for.
module _ {w : Walk} {r : ℕ} {q : declared.Record} {m : Node} (e : five_words q ≡ node_in w.sheet.words.now r) (i : m ≡ node_of (five_words q)) (p : Adding w r) where
  pub picking : {done : List ℕ} → Order w.sheet.words.now done → There w.sheet.words.now r done → State w done → Picking w r q m done
  picking o t h = record { inside = p.inside; words_are = e; node_is = i; order = o; there = t; holds = h }

  pub asked : Picking w r q m p.walking.done
  asked = picking p.walking.order p.there p.walking.holds

module _ {w : Walk} {r : ℕ} {q : declared.Record} {m : Node} {done : List ℕ} (b : Picking w r q m done) where
  abbrev ws : List ℕ
  ws = w.sheet.words.now

  abbrev scratch : List ℕ
  scratch = w.scratch.now

  abbrev out : List ℕ
  out = w.out.now

  abbrev R : Record
  R = record_at (records_of ws) r

  abbrev B : Built
  B = built_of ws done

  pub c_same : q.c ≡ R.c
  c_same = c_is ws w.sheet.checked r b.inside q b.words_are

  -- The rule for it.
  pub rule_is : pick prime B R m ≡ pick_of_record ws r done
  rule_is = ap (pick prime B R) (node_is ws w.sheet.checked r b.inside q b.words_are b.node_is)

  module _ (c : ℕ) (named : Mem c (children m)) where
    mem : Mem c (children_at (records_of ws) r)
    mem = child_of ws w.sheet.checked r b.inside q b.words_are b.node_is c named

    below : c < length (records_of ws)
    below = omega (arith, child_low ws w.sheet.checked r c mem, b.inside)

    -- Where a child's node stands.
    num_is : get_or scratch c 0 ≡ suc (B.num c)
    num_is = states.scratch_num ws done scratch out w.n b.holds c below (b.there c mem)

    num_low : B.num c < length B.nodes
    num_low = states.num_below ws w.sheet.checked done b.order c (b.there c mem)

    pub child_there : (c < length scratch) × (0 < get_or scratch c 0) × (place 5 (get_or scratch c 0 - 1) + 5 ≤ length out)
    child_there =
        let few = (states.kept ws w.sheet.checked done b.order).few in
        let d = distinct_length (length (records_of ws)) done b.order.distinct b.order.below in
        let small : get_or scratch c 0 - 1 < length (records_of ws) = omega (arith, num_is, num_low) in (
          omega (arith, below, states.scratch_length ws done scratch out w.n b.holds),
          omega (arith, num_is),
          omega (arith, place_below 5 _ _ small, w.room),
        )

    module _ (x : Child) (f : Reads w c x) where
      at_num : get_or scratch c 0 - 1 ≡ B.num c
      at_num = omega (arith, num_is)

      pub child_number : x.number ≡ B.num c
      child_number = f.0 ∙ at_num

      pub child_node : shown_node x.node ≡ node_for B c
      unfolding node_for
      child_node = f.1 ∙ ap (λ (k : ℕ). node_of (node_in out k)) at_num ∙ ap node_of (node_in_lem out (length out) B.nodes b.holds.out_is (B.num c) num_low)

-- A left child is among the children, and a right one.
pub left_in : (x y : ℕ) → Mem x (x ∷ y ∷ [])
left_in x y = mem_here x (y ∷ [])

pub right_in : (x y : ℕ) → Mem y (x ∷ y ∷ [])
right_in x y = mem_there y x (y ∷ []) (mem_here y [])

-- A leaf and a constant go in as they are.
module _ {w : Walk} {r : ℕ} {q : declared.Record} {done : List ℕ} where
  own : {m : Node} (b : Picking w r q m done)
      → pick prime (built_of w.sheet.words.now done) (record_at (records_of w.sheet.words.now) r) m ≡ graph.make (record_at (records_of w.sheet.words.now) r)
      → graph.make (five_words q) ≡ pick_of_record w.sheet.words.now r done
  own b e = ap graph.make (is w.sheet.words.now w.sheet.checked r b.inside q b.words_are) ∙ sym e ∙ rule_is b

  pub picks_leaf : {v : Leaf} → Picking w r q (leaf v) done → graph.make (five_words q) ≡ pick_of_record w.sheet.words.now r done
  unfolding pick
  picks_leaf b = own b refl

  pub picks_const : {k : ℕ} → Picking w r q (const k) done → graph.make (five_words q) ≡ pick_of_record w.sheet.words.now r done
  unfolding pick
  picks_const b = own b refl

  -- Another one goes in by its rule.
  pub picks_neg : {x : ℕ} → Picking w r q (neg x) done → (k : Child) → Reads w x k
      → neg_rule prime k.number (shown_node k.node) q.c ≡ pick_of_record w.sheet.words.now r done
  unfolding pick children
  picks_neg {x} b k f =
      let m : Mem x (x ∷ []) = mem_here x [] in
      (λ i. neg_rule prime (child_number b x m k f i) (child_node b x m k f i) (c_same b i)) ∙ rule_is b

  two : (x y : ℕ) {m : Node} (b : Picking w r q m done) → Mem x (children m) → Mem y (children m)
      → (k j : Child) → Reads w x k → Reads w y j → (rule : (l r : ℕ) (m n : Node) (g : ℕ) → graph.Pick)
      → rule k.number j.number (shown_node k.node) (shown_node j.node) q.c
      ≡ rule ((built_of w.sheet.words.now done).num x) ((built_of w.sheet.words.now done).num y)
      (node_for (built_of w.sheet.words.now done) x) (node_for (built_of w.sheet.words.now done) y) (record_at (records_of w.sheet.words.now) r).c
  two x y b l h k j f g rule =
      λ i. rule (child_number b x l k f i) (child_number b y h j g i) (child_node b x l k f i) (child_node b y h j g i) (c_same b i)

  module _ {x y : ℕ} where
    pub picks_add : Picking w r q (add x y) done → (k j : Child) → Reads w x k → Reads w y j
        → add_rule prime k.number j.number (shown_node k.node) (shown_node j.node) q.c ≡ pick_of_record w.sheet.words.now r done
    unfolding pick children
    picks_add b k j f g = two x y b (left_in x y) (right_in x y) k j f g (add_rule prime) ∙ rule_is b

    pub picks_sub : Picking w r q (sub x y) done → (k j : Child) → Reads w x k → Reads w y j
        → sub_rule prime k.number j.number (shown_node k.node) (shown_node j.node) q.c ≡ pick_of_record w.sheet.words.now r done
    unfolding pick children
    picks_sub b k j f g = two x y b (left_in x y) (right_in x y) k j f g (sub_rule prime) ∙ rule_is b

    pub picks_mul : Picking w r q (mul x y) done → (k j : Child) → Reads w x k → Reads w y j
        → mul_rule prime k.number j.number (shown_node k.node) (shown_node j.node) q.c ≡ pick_of_record w.sheet.words.now r done
    unfolding pick children
    picks_mul b k j f g = two x y b (left_in x y) (right_in x y) k j f g (mul_rule prime) ∙ rule_is b
