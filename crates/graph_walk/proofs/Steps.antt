-- What one more record changes.
use mathlib.Core.Path.{◌≡◌, sym, ap, ◌∙◌}
use mathlib.Core.List.{List, ◌∷◌}
use Prim.Native.Nat.{ℕ, suc, ◌<◌}
use lib.ListN.{length, set}
use Rattle.semantics.specs.Sheet.{Record}
use Rattle.semantics.specs.Graph as graph
use Rattle.semantics.specs.Graph.{Built, take_in, add_record, build, find, intern}
use Rattle.records.specs.Access.{records_of}
use Rattle.nodes.specs.Memory.{tabulate, mark, nodes_out, built_of, GraphHolds}
use Rattle.nodes.proofs.Marks.{mark_more}
use Rattle.graph_walk.specs.Walking.{pick_of_record}

-- A record that goes to a node that is there, and one whose node is interned.
module _ (ws done scratch out : List ℕ) (n : ℕ) (h : GraphHolds ws done scratch out n) (r : ℕ) (l : r < length (records_of ws)) where
  abbrev step : graph.Pick → Built
  step q = take_in (built_of ws done) r q

  pub holds_present : (k : ℕ) → pick_of_record ws r done ≡ graph.present k → GraphHolds ws (r ∷ done) (set scratch r (suc k)) out n
  unfolding built_of build add_record take_in
  holds_present k e = record {
    scratch_is =
        ap (λ (s : List ℕ). set s r (suc k)) h.scratch_is
        ∙ mark_more (length (records_of ws)) done (built_of ws done) (built_of ws (r ∷ done)) r k (ap (λ (q : graph.Pick). (step q).num) e) l;
    out_is = h.out_is ∙ ap (λ (q : graph.Pick). nodes_out (length out) (step q).nodes) (sym e);
    count_is = h.count_is ∙ ap (λ (q : graph.Pick). length (step q).nodes) (sym e);
  }

  pub holds_made : (q : Record) → pick_of_record ws r done ≡ graph.make q → (out' : List ℕ) (index n' : ℕ) → length out' ≡ length out
      → index ≡ find q (built_of ws done).nodes → out' ≡ nodes_out (length out) (intern q (built_of ws done).nodes)
      → n' ≡ length (intern q (built_of ws done).nodes) → GraphHolds ws (r ∷ done) (set scratch r (suc index)) out' n'
  unfolding built_of build add_record take_in
  holds_made q e out' index n' s i o c = record {
    scratch_is =
        ap (λ (s : List ℕ). set s r (suc index)) h.scratch_is
        ∙ ap (λ (k : ℕ). set (tabulate 0 (length (records_of ws)) (mark done (built_of ws done))) r (suc k)) i
        ∙ mark_more (length (records_of ws)) done (built_of ws done) (built_of ws (r ∷ done)) r (find q (built_of ws done).nodes) (ap (λ (x : graph.Pick). (step x).num) e) l;
    out_is = o ∙ ap (λ (m : ℕ). nodes_out m (intern q (built_of ws done).nodes)) (sym s) ∙ ap (λ (x : graph.Pick). nodes_out (length out') (step x).nodes) (sym e);
    count_is = c ∙ ap (λ (x : graph.Pick). length (step x).nodes) (sym e);
  }
