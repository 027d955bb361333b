-- The walk of a call: from a pool whose first words are cleared to all that the call's roots reach.
use mathlib.Core.Path.{◌≡◌, sym, ap, subst, ◌∙◌}
use mathlib.Core.List.{List, [], ◌∷◌, ◌++◌, map}
use Prim.Native.Nat.{ℕ, ◌*◌, ◌≤◌, ◌<◌}
use native.Mathlib.Omega.{arith}
use lib.ListN.{length, get_or, replicate, length-append, length-replicate, get_or-replicate, get_or-append}
use Rattle.semantics.specs.Arithmetic.{prime}
use Rattle.semantics.specs.Answer.{good}
use Rattle.semantics.specs.Check.{read_sheet, check}
use Rattle.semantics.specs.Call.{zeros}
use Rattle.semantics.specs.Walk.{Mem, Below, order}
use Rattle.semantics.specs.Monomial.{list_at}
use Rattle.semantics.specs.Group.{Root, constraint_roots}
use Rattle.semantics.specs.Lists.{All}
use Rattle.semantics.proofs.Members.{mem_here, mem_there}
use Rattle.semantics.proofs.Orders.{order_roots}
use Rattle.semantics.proofs.GraphSheets.{named_below}
use Rattle.semantics.proofs.Demands.{constraint_nodes}
use Rattle.records.specs.Access.{records_of}
use Rattle.records.proofs.Steps.{inside, lows}
use Rattle.expand.specs.declared.Walk.{Walk}
use Rattle.expand.specs.Walking.{PoolHolds, Expands}
use Rattle.expand.specs.Walks.{Starts, ExpandWalking, Walked}
use Rattle.expand.proofs.Roots.{start_walking, all_expanded}
use Rattle.std.specs.Prelude.{Result, Ok}
use Rattle.answers.specs.declared.Refusal.{Refusal}
use Rattle.monomial.specs.Words.{Stored}
use Rattle.grouping.specs.Families.{Grouping}

-- A pool whose first words are cleared.
module _ (ws : List ℕ) (records : ℕ) (are : records ≡ length (records_of ws)) {pool : List ℕ} (rest : List ℕ) (cleared : pool ≡ zeros (2 * records) ++ rest) where
  room : 2 * length (records_of ws) ≤ length pool
  unfolding zeros
  room = omega (arith, ap length cleared, length-append (replicate (2 * records) 0) rest, length-replicate {A = ℕ} (2 * records) 0, are)

  clear : (i : ℕ) → i < length (records_of ws) → get_or pool (2 * i) 0 ≡ 0
  unfolding zeros
  clear i l =
      let inside : 2 * i < 2 * records = omega (arith, are) in
      ap (λ (p : List ℕ). get_or p (2 * i) 0) cleared
      ∙ get_or-append (replicate (2 * records) 0) rest 0 (2 * i) (omega (arith, length-replicate {A = ℕ} (2 * records) 0, inside))
      ∙ get_or-replicate (2 * records) (2 * i) 0 0 inside

  -- A walk that starts there.
  module _ {v : Walk} (starts : Starts ws pool (2 * records) v) where
    used_is : v.used ≡ 2 * length (records_of v.sheet.words.now)
    used_is = starts.used_is ∙ (λ i. 2 * are i) ∙ (λ i. 2 * length (records_of (sym starts.sheet_is i)))

    room_now : 2 * length (records_of v.sheet.words.now) ≤ length v.pool.now
    room_now =
        subst (λ (s : List ℕ). 2 * length (records_of s) ≤ length v.pool.now) (sym starts.sheet_is)
        (subst (λ (q : List ℕ). 2 * length (records_of ws) ≤ length q) (sym starts.pool_is) room)

    clear_now : (i : ℕ) → i < length (records_of v.sheet.words.now) → get_or v.pool.now (2 * i) 0 ≡ 0
    clear_now =
        subst (λ (s : List ℕ). (i : ℕ) → i < length (records_of s) → get_or v.pool.now (2 * i) 0 ≡ 0) (sym starts.sheet_is)
        (subst (λ (q : List ℕ). (i : ℕ) → i < length (records_of ws) → get_or q (2 * i) 0 ≡ 0) (sym starts.pool_is) clear)

    pub walk_starts : ExpandWalking v
    walk_starts = start_walking v used_is room_now clear_now

    -- The roots that a sheet names are expanded; the slice holds what the walk left there.
    pub walk_ends : (roots : List ℕ → List ℕ) (w : Walk) (u : Result (Unit {0}) Refusal) → Walked v (roots v.sheet.words.now) w u
        → (pool' : List ℕ) → w.pool.now ≡ pool' → (used : ℕ) × Expands ws pool' used u (order (records_of ws) (roots ws))
    walk_ends roots w u f pool' e = (
      w.used,
      subst (λ (q : List ℕ). Expands ws q w.used u (order (records_of ws) (roots ws))) e
          (subst (λ (s : List ℕ). Expands ws w.pool.now w.used u (order (records_of s) (roots s))) starts.sheet_is
          (subst (λ (s : List ℕ). Expands s w.pool.now w.used u (order (records_of v.sheet.words.now) (roots v.sheet.words.now))) (f.0.sheet ∙ starts.sheet_is)
          (all_expanded v used_is room_now clear_now (roots v.sheet.words.now) w u f))),
    )

-- All that was to be expanded stands in the pool.
pub all_held : (ws pool done : List ℕ) {u : Result (Unit {0}) Refusal} {n : Unit {0}} → u ≡ Ok n → (e : (used : ℕ) × Expands ws pool used u done)
    → PoolHolds ws done pool e.0
all_held ws pool done g e = subst (λ (u : Result (Unit {0}) Refusal). Expands ws pool e.0 u done) g e.1

-- Every root, where every record that one names.
all_nodes : (P : ℕ → Type 0) (roots : List Root) → ((i : ℕ) → Mem i (map (λ (r : Root). r.node) roots) → P i) → All (λ (r : Root). P r.node) roots
all_nodes P [] f = tt
all_nodes P (r ∷ rs) f = (
  f r.node (mem_here r.node (map (λ (x : Root). x.node) rs)),
  all_nodes P rs (λ i m. f i (mem_there i r.node (map (λ (x : Root). x.node) rs) m)),
)

-- The lists of all that was reached stand in the pool.
module _ (ws : List ℕ) (checked : check prime ws ≡ good (read_sheet ws)) (references : List ℕ) (below : Below (length (records_of ws)) references)
    (pool : List ℕ) (used : ℕ) (holds : PoolHolds ws (order (records_of ws) references) pool used) where
  pub grouping_of : (roots : List Root) → ((i : ℕ) → Mem i (map (λ (r : Root). r.node) roots) → Mem i references) → Grouping ws pool roots
  grouping_of roots f = record {
    lists =
        all_nodes (λ (i : ℕ). Stored pool i (list_at prime (records_of ws) i)) roots
        (λ i m. holds.old i (order_roots (records_of ws) (lows ws checked) references below i (f i m)));
  }

-- The constraints.
module _ (ws : List ℕ) (checked : check prime ws ≡ good (read_sheet ws)) (pool : List ℕ) (used : ℕ)
    (holds : PoolHolds ws (order (records_of ws) (read_sheet ws).constraints) pool used) where
  pub constraints_grouping : Grouping ws pool (constraint_roots (read_sheet ws))
  constraints_grouping =
      grouping_of ws checked (read_sheet ws).constraints (named_below (length (records_of ws)) (read_sheet ws).constraints (inside ws checked).constraints)
      pool used holds (constraint_roots (read_sheet ws)) (λ i m. subst (Mem i) (constraint_nodes (read_sheet ws)) m)
