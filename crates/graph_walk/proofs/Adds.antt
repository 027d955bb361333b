-- Adding a record whose children are added.
use mathlib.Core.Path.{◌≡◌, refl, sym, ap, subst, ◌∙◌}
use mathlib.Core.Bool.{false}
use mathlib.Core.List.{List, ◌∷◌}
use Prim.Native.Nat.{ℕ, ◌+◌, ◌≤◌, ◌<◌}
use native.Mathlib.Omega.{arith}
use lib.Dec.{eqb}
use lib.ListN.{length}
use borrow.Author.Tests.{eq-eqb}
use Rattle.semantics.specs.Arithmetic.{prime}
use Rattle.semantics.specs.Sheet.{Record, place, Each, GoodRecord}
use Rattle.semantics.specs.Value.{node_of}
use Rattle.semantics.specs.Walk.{children, member}
use Rattle.semantics.specs.Graph as graph
use Rattle.semantics.specs.Graph.{Built, set_num, take_in, add_record, build, find, intern}
use Rattle.semantics.proofs.Basics.{cond_true}
use Rattle.semantics.proofs.Members.{mem_here}
use Rattle.semantics.proofs.Places.{place_most}
use Rattle.semantics.proofs.Records.{LowRecord, each_low}
use Rattle.records.specs.Access.{records_of}
use Rattle.records.specs.Orders.{Order, There}
use Rattle.records.proofs.Steps.{few_records, order_more}
use Rattle.nodes.specs.declared.Interned.{Interned}
use Rattle.nodes.specs.declared.rules.Pick.{Pick}
use Rattle.nodes.specs.Picks.{pick_of}
use Rattle.nodes.specs.Nodes.{NoneBefore, above_all, Interns}
use Rattle.nodes.specs.Memory.{built_of, nodes_out}
use Rattle.nodes.proofs.States as states
use Rattle.nodes.proofs.Searches.{from_inside, from_none}
use Rattle.graph_walk.specs.declared.Walk.{Walk}
use Rattle.graph_walk.specs.Walking.{State, Adding, Picks, pick_of_record}

-- The number that a record gets.
module _ (b : Built) (r : ℕ) where
  num_present : (k : ℕ) → (take_in b r (graph.present k)).num r ≡ k
  unfolding take_in set_num
  num_present k = cond_true (eqb r r) k (b.num r) (eq-eqb r r refl)

  num_made : (q : Record) → (take_in b r (graph.make q)).num r ≡ find q b.nodes
  unfolding take_in set_num
  num_made q = cond_true (eqb r r) (find q b.nodes) (b.num r) (eq-eqb r r refl)

-- A record whose children are added.
module _ {w : Walk} {r : ℕ} (p : Adding w r) where
  abbrev ws : List ℕ
  ws = w.sheet.words.now

  abbrev E : ℕ
  E = length (records_of ws)

  abbrev done : List ℕ
  done = p.walking.done

  next : Order ws (r ∷ done)
  next = order_more ws w.sheet.checked done r p.walking.order p.inside p.new p.there

  num_next : (built_of ws (r ∷ done)).num r < E
  num_next = states.num_small ws w.sheet.checked (r ∷ done) next r (mem_here r done)

  -- What was picked of it.
  pub picked : {x y : Pick} → Picks w r (pick_of x) → x ≡ y → pick_of y ≡ pick_of_record ws r p.walking.done
  picked f e = sym (ap pick_of e) ∙ f p.walking.done p.walking.order p.there p.walking.holds

  pub record_few : r < 4096
  record_few = omega (arith, p.inside, few_records ws w.sheet.checked)

  pub in_scratch : r < length w.scratch.now
  in_scratch = omega (arith, p.inside, states.scratch_length ws done w.scratch.now w.out.now w.n p.walking.holds)

  pub present_few : (k : ℕ) → graph.present k ≡ pick_of_record ws r p.walking.done → k < 4096
  unfolding built_of build add_record
  present_few k e =
      let small : k < E = subst (λ (j : ℕ). j < E) (ap (λ (q : graph.Pick). (take_in (built_of ws done) r q).num r) (sym e) ∙ num_present (built_of ws done) r k) num_next in
      omega (arith, few_records ws w.sheet.checked)

  module _ (q : Record) (e : graph.make q ≡ pick_of_record ws r p.walking.done) where
    abbrev ns : List Record
    ns = (built_of ws done).nodes

    made_few : find q (built_of ws p.walking.done).nodes < 4096
    unfolding built_of build add_record
    made_few =
        let small : find q ns < E = subst (λ (j : ℕ). j < E) (ap (λ (q : graph.Pick). (take_in (built_of ws done) r q).num r) (sym e) ∙ num_made (built_of ws done) r q) num_next in
        omega (arith, few_records ws w.sheet.checked)

    -- Where the search for its node begins.
    module _ (from : ℕ) (f : from ≡ above_all (children (node_of q))) where
      lows : Each LowRecord 0 (intern q ns)
      unfolding built_of build add_record take_in
      lows =
          each_low prime 0 (intern q ns)
          (subst (λ (x : graph.Pick). Each (GoodRecord prime) 0 (take_in (built_of ws done) r x).nodes) (sym e)
          (states.kept ws w.sheet.checked (r ∷ done) next).good)

      pub search_inside : from ≤ w.n
      search_inside = omega (arith, p.walking.holds.count_is, from_inside q ns lows from f)

      search_none : NoneBefore from q (built_of ws p.walking.done).nodes
      search_none = from_none q ns lows from f

      -- What interning it came to.
      module _ {v : Interned} {o : List ℕ} (i : Interns w.out.now w.n from q v o) where
        pub interned : (v.index ≡ find q ns) × (o ≡ nodes_out (length w.out.now) (intern q ns)) × (v.count ≡ length (intern q ns))
        interned = i ns p.walking.holds.out_is p.walking.holds.count_is search_none

        pub index_few : v.index < 4096
        index_few = omega (arith, interned.0, made_few)

  -- Room for its node.
  pub room_more : place 5 (w.n + 1) ≤ length w.out.now
  room_more =
      let few : w.n + 1 ≤ E = omega (arith, p.walking.holds.count_is, states.few_nodes ws w.sheet.checked done r p.walking.order p.inside p.new) in
      omega (arith, place_most 5 (w.n + 1) E few, w.room)

  -- The same for any order of which the state holds.
  abbrev pub at_order : (d : List ℕ) → Order ws d → member r d ≡ false → There ws r d → State w d → Adding w r
  at_order d o new there h = record {
    walking = record { done = d; order = o; holds = h };
    inside = p.inside;
    new = new;
    there = there;
  }
