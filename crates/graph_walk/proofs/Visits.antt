-- The ways through a visit of the builder, by the one law of a visit: the record is added already, or it is added after its children, which a
-- loop goes through.
use mathlib.Core.Path.{◌≡◌, sym, subst}
use mathlib.Core.Bool.{false}
use mathlib.Core.List.{List}
use Prim.Native.Nat.{ℕ, ◌+◌, ◌≤◌, ◌<◌}
use lib.ListN.{length, get_or}
use Rattle.std.specs.Prelude.{Option, Some, None, slice_get}
use Rattle.semantics.specs.Value.{node_of}
use Rattle.semantics.specs.Walk.{Below, children, children_at, member}
use Rattle.records.specs.Access.{node_in, records_of}
use Rattle.records.specs.Orders.{There, Finishes}
use Rattle.records.proofs.Steps.{child_low, child_inside}
use Rattle.records.proofs.Children.{first_all, child_at, child_in, first_same}
use Rattle.records.proofs.Visited.{children_new, all_there, visits_seen, visits_new}
use Rattle.nodes.proofs.States as states
use Rattle.graph_walk.specs.declared.Walk.{Walk}
use Rattle.graph_walk.specs.Walking.{State, AddWalking, Adding, Finished, Visited, Walks}
use Rattle.graph_walk.proofs.Rooting.{size, same_as, same_on, still_inside, walking_after, Naming, naming_none, naming_ready, naming_more}

-- What holds while the first i children of record r are visited: they are named one after the other.
abbrev pub Children : (u : Walk) (r : ℕ) (v : Walk) (i : ℕ) → Type 0
Children u r = Naming u (children_at (records_of u.sheet.words.now) r)

-- The i-th child of record r, as its words name it.
abbrev pub named : Walk → (r i : ℕ) → Option ℕ
named w r i = slice_get (children (node_of (node_in w.sheet.words.now r))) i

module _ {u : Walk} {r : ℕ} (p : AddWalking u × (r < size u)) where
  abbrev ws : List ℕ
  ws = u.sheet.words.now

  abbrev ch : List ℕ
  ch = children_at (records_of ws) r

  -- It is added already.
  pub visited_seen : (get_or u.scratch.now r 0 ≡ 0 → ⊥) → Visited u r u
  visited_seen e = (
    same_as u,
    visits_seen ws u.sheet.checked r p.1 (State u) (λ done h. states.seen ws done u.scratch.now u.out.now u.n h r p.1 e),
  )

  below : Below (size u) ch
  below = child_inside ws u.sheet.checked r p.1

  pub children_none : Children u r u 0
  children_none = naming_none

  module _ {v : Walk} {i : ℕ} (h : Children u r v i) where
    same_named : {o : Option ℕ} → o ≡ named v r i → o ≡ named u r i
    same_named {o} = subst (λ (x : List ℕ). o ≡ slice_get (children (node_of (node_in x r))) i) h.walks.0.sheet

    -- There is no i-th child.
    pub children_same : None ≡ named v r i → Children u r v (i + 1)
    children_same e = record { walks = subst (λ (cs : List ℕ). Walks u cs v) (sym (first_same ws u.sheet.checked r p.1 i (same_named e))) h.walks }

    -- There is.
    module _ {c : ℕ} (e : Some c ≡ named v r i) where
      at : (i < length ch) × (get_or ch i 0 ≡ c)
      at = child_at ws u.sheet.checked r p.1 i (same_named e)

      pub child_below : c < r
      child_below = child_low ws u.sheet.checked r c (child_in ws u.sheet.checked r p.1 i (same_named e))

      pub child_ready : AddWalking v × (c < size v)
      child_ready = subst (λ (x : ℕ). AddWalking v × (x < size v)) at.1 (naming_ready p.0 below h at.0)

      pub children_more : {w : Walk} → Visited v c w → Children u r w (i + 1)
      children_more {w} f = naming_more p.0 below h at.0 (subst (λ (x : ℕ). Visited v x w) (sym at.1) f)

    -- All its children are visited: it may be added, and when it is, it is visited.
    module _ (none : get_or u.scratch.now r 0 ≡ 0) (all : 2 ≤ i) where
      new : (done : List ℕ) → State u done → member r done ≡ false
      new done h = states.seen_not ws done u.scratch.now u.out.now u.n h r p.1 none

      all_visited : Walks u ch v
      all_visited = subst (λ (cs : List ℕ). Walks u cs v) (first_all ws u.sheet.checked r p.1 i all) h.walks

      pub adding : Adding v r
      unfolding walking_after
      adding = record {
        walking = walking_after ch below p.0 all_visited;
        inside = still_inside h.walks.0 p.1;
        new = children_new ws u.sheet.checked r p.1 ch (λ c m. m) p.0.done (new p.0.done p.0.holds);
        there =
            subst (λ (x : List ℕ). There x r (walking_after ch below p.0 all_visited).done) (sym h.walks.0.sheet)
            (all_there ws u.sheet.checked r p.1 p.0.done);
      }

      pub visited : {w : Walk} → Finished v r w → Visited u r w
      visited {w} f = (
        same_on h.walks.0 f.0,
        visits_new ws u.sheet.checked r p.1 (State u) new (State w) (State v) all_visited.1
            (subst (λ (x : List ℕ). Finishes x r (State v) (State w)) h.walks.0.sheet f.1),
      )
