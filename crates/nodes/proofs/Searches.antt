-- Where the search for a node begins.
use mathlib.Core.Path.{◌≡◌, refl, sym, subst, ◌∙◌}
use mathlib.Core.Bool.{false}
use mathlib.Core.List.{List, [], ◌∷◌, ◌++◌}
use Prim.Native.Nat.{ℕ, zero, suc, ◌≤◌, ◌<◌}
use native.Mathlib.Omega.{arith}
use lib.Dec.{ltb}
use lib.ListN.{length, get_or, get_or-append}
use borrow.Author.Tests.{ltb-true}
use Rattle.semantics.specs.Sheet.{Record, Each}
use Rattle.semantics.specs.Value.{node_of, no_record, record_at}
use Rattle.semantics.specs.Walk.{Mem, children, children_at}
use Rattle.semantics.specs.Graph.{equal_records, find, intern}
use Rattle.semantics.proofs.Basics.{by_test}
use Rattle.semantics.proofs.Members.{mem_here, mem_there}
use Rattle.semantics.proofs.Records.{LowRecord}
use Rattle.semantics.proofs.Orders.{low}
use Rattle.semantics.proofs.Graphs.{equal_is, find_le}
use Rattle.nodes.specs.Nodes.{NoneBefore, above_all}

above_le : (cs : List ℕ) (k : ℕ) → ((c : ℕ) → Mem c cs → c < k) → above_all cs ≤ k
unfolding above_all
above_le [] k h = omega arith
above_le (c ∷ cs) k h = omega (arith, h c (mem_here c cs), above_le cs k (λ d m. h d (mem_there d c cs m)))

-- No node before the one that is found is equal.
none_found : (q : Record) (ns : List Record) → NoneBefore (find q ns) q ns
unfolding find record_at
none_found q [] i h = absurd (omega arith)
none_found q (m ∷ ns) zero h =
    by_test (λ (k : ℕ). 0 < k → equal_records q m ≡ false) (equal_records q m) (λ e l. absurd (omega arith)) (λ e l. e) h
none_found q (m ∷ ns) (suc i) h =
    by_test (λ (k : ℕ). suc i < k → equal_records q (get_or ns i no_record) ≡ false) (equal_records q m)
    (λ e l. absurd (omega arith)) (λ e l. none_found q ns i (omega arith)) h

-- The node that is found, or appended, is the one.
found_at : (q : Record) (ns : List Record) → record_at (ns ++ (q ∷ [])) (find q ns) ≡ q
unfolding find record_at
found_at q [] = refl
found_at q (m ∷ ns) =
    by_test (λ (k : ℕ). get_or (m ∷ (ns ++ (q ∷ []))) k no_record ≡ q) (equal_records q m) (λ e. sym (equal_is q m e)) (λ e. found_at q ns)

interned_at : (q : Record) (ns : List Record) → record_at (intern q ns) (find q ns) ≡ q
unfolding intern record_at
interned_at q ns =
    by_test (λ (l : List Record). get_or l (find q ns) no_record ≡ q) (ltb (find q ns) (length ns))
    (λ e. sym (get_or-append ns (q ∷ []) no_record (find q ns) (ltb-true _ _ e)) ∙ unfold record_at in (found_at q ns))
    (λ e. unfold record_at in (found_at q ns))

-- A node stands above its children, so that the search may begin there.
module _ (q : Record) (ns : List Record) (w : Each LowRecord 0 (intern q ns)) (from : ℕ) (e : from ≡ above_all (children (node_of q))) where
  from_le : from ≤ find q ns
  unfolding children_at
  from_le =
      omega (
        arith,
        above_le (children (node_of q)) (find q ns)
            (λ c m. low (intern q ns) w (find q ns) c (subst (λ (r : Record). Mem c (children (node_of r))) (sym (interned_at q ns)) m)),
      )

  pub from_inside : from ≤ length ns
  from_inside = omega (arith, from_le, find_le q ns)

  pub from_none : NoneBefore from q ns
  from_none i h = none_found q ns i (omega (arith, from_le))
