-- From an empty scratch and output to the state when all records are added.
use mathlib.Core.Path.{◌≡◌, refl, sym, ap, subst, ◌∙◌}
use mathlib.Core.List.{List, [], ◌∷◌, ◌++◌, flat_map}
use Prim.Native.Nat.{ℕ, zero, suc, ◌+◌, ◌-◌, ◌≤◌}
use native.Mathlib.Omega.{arith}
use lib.ListN.{length, replicate, replicate-append-replicate}
use Rattle.semantics.specs.Sheet.{Interaction, Sheet, length_of, place}
use Rattle.semantics.specs.Check.{read_sheet}
use Rattle.semantics.specs.Walk.{Below, children_at, member, fold_left, visit, order}
use Rattle.semantics.specs.Graph.{build, graph_roots}
use Rattle.semantics.specs.Call.{zeros, padded}
use Rattle.semantics.proofs.Places.{place_head}
use Rattle.semantics.proofs.Encoding.{sheet_length}
use Rattle.semantics.proofs.GraphSheets.{named_below}
use Rattle.records.specs.Access.{IsSheet, records_of}
use Rattle.records.specs.Named.{references}
use Rattle.records.proofs.Rooting.{order_none}
use Rattle.records.proofs.Named.{all_references_below}
use Rattle.records.proofs.Steps.{inside}
use Rattle.nodes.specs.Memory.{tabulate, mark, nodes_out, built_of, GraphHolds}
use Rattle.graph_lists.specs.Lists.{ToWriteLists}
use Rattle.graph_walk.specs.declared.Walk.{Walk}
use Rattle.graph_walk.specs.Walking.{Starts, AddWalking, Walks}
use Rattle.graph_walk.proofs.Rooting.{walking_after, walks_both}
use Rattle.dag.specs.Calls.{Starting}

table_zeros : (k n : ℕ) (f : ℕ → ℕ) → ((i : ℕ) → f i ≡ 0) → replicate n 0 ≡ tabulate k n f
unfolding tabulate
table_zeros k zero f h = refl
table_zeros k (suc n) f h = λ i. sym (h k) i ∷ table_zeros (suc k) n f h i

module _ {ws scratch out : List ℕ} (checked : IsSheet ws) (b : Starting ws scratch out) where
  abbrev s : Sheet
  s = read_sheet ws

  abbrev E : ℕ
  E = length (records_of ws)

  pub room : place 5 E ≤ length out
  unfolding length_of
  room = omega (arith, sheet_length s, b.room)

  holds_none : GraphHolds ws [] scratch out 0
  unfolding mark member built_of build nodes_out padded zeros flat_map
  holds_none = record {
    scratch_is = b.scratch_is ∙ table_zeros 0 E (mark [] (built_of ws [])) (λ i. refl);
    out_is =
        let e : 4 + (length out - 4) ≡ length out = omega (arith, room, place_head 5 E) in
        b.out_is ∙ ap (λ (k : ℕ). replicate k 0) (sym e) ∙ sym (replicate-append-replicate 4 (length out - 4) 0);
    count_is = refl;
  }

  module _ {u : Walk} (t : Starts ws scratch out 0 u) where
    pub start_walking : AddWalking u
    start_walking = record {
      done = [];
      order = order_none u.sheet.words.now;
      holds =
          subst (λ (x : List ℕ × (List ℕ × (List ℕ × ℕ))). GraphHolds x.0 [] x.1.0 x.1.1.0 x.1.1.1)
          (λ i. (sym t.sheet_is i, (sym t.scratch_is i, (sym t.out_is i, sym t.count_is i)))) holds_none;
    }

    -- The records that the constraints name.
    module _ {names : List ℕ} (e : names ≡ s.constraints) where
      pub names_below : Below (length (records_of u.sheet.words.now)) names
      names_below =
          subst (λ (x : List ℕ). Below (length (records_of x)) names) (sym t.sheet_is)
          (subst (Below E) (sym e) (named_below E s.constraints (inside ws checked).constraints))

      -- When the constraints are added.
      module _ {v : Walk} (f : Walks u names v) where
        pub walking_next : {all : List Interaction} → all ≡ s.interactions → AddWalking v × Below (length (records_of v.sheet.words.now)) (references all)
        walking_next {all} a = (
          walking_after names names_below start_walking f,
          subst (λ (x : List ℕ). Below (length (records_of x)) (references all)) (sym (f.0.sheet ∙ t.sheet_is))
              (subst (λ (xs : List Interaction). Below E (references xs)) (sym a) (all_references_below ws checked)),
        )

        -- When all are, the interactions' too.
        pub finishing : {all : List Interaction} → all ≡ s.interactions → {w : Walk} → Walks v (references all) w → {s' o' : List ℕ} {n : ℕ}
            → w.scratch.now ≡ s' → w.out.now ≡ o' → n ≡ w.n → ToWriteLists ws s' o' n
        unfolding order graph_roots start_walking
        finishing a {w} g {s'} {o'} {n} scratch_is out_is count_is =
            let all : Walks u (names ++ references s.interactions) w =
            walks_both names (references s.interactions) names_below f
            (subst (λ (xs : List Interaction). Walks v (references xs) w) a g)
            in
            let long : length o' ≡ length out = sym (ap length out_is) ∙ all.0.long ∙ ap length t.out_is in
            record {
              room = omega (arith, b.room, long);
              holds =
                  subst (λ (x : List ℕ × ((List ℕ × List ℕ) × (List ℕ × (List ℕ × ℕ)))). GraphHolds x.0
                  (fold_left (visit (children_at (records_of x.1.0.0)) (length (records_of x.1.0.0))) [] (x.1.0.1 ++ references s.interactions))
                  x.1.1.0 x.1.1.1.0 x.1.1.1.1)
                  (λ i. ((all.0.sheet ∙ t.sheet_is) i, ((t.sheet_is i, e i), (scratch_is i, (out_is i, sym count_is i)))))
                  (all.1 [] (order_none u.sheet.words.now) start_walking.holds);
            }
