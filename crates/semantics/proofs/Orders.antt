-- The order of a sheet's records: its laws over records that look at earlier ones only, and its length.
use mathlib.Core.Path.{◌≡◌, refl, sym, subst}
use mathlib.Core.Logic.{◌⊎◌, inl, inr}
use mathlib.Core.Bool.{Bool, true, false, cond}
use mathlib.Core.List.{List, [], ◌∷◌}
use Prim.Native.Nat.{ℕ, zero, suc, ◌≤◌, ◌<◌}
use native.Mathlib.Omega.{arith}
use lib.Dec.{eqb, ltb}
use lib.ListN.{length, get_or, get_or-eq_default}
use borrow.Author.Tests.{eqb-true, eqb-false, ltb-true, ltb-false}
use Rattle.semantics.specs.Sheet.{Record, Each}
use Rattle.semantics.specs.Value.{Node, leaf, const, add, sub, neg, mul, node_of, no_record, record_at}
use Rattle.semantics.specs.Walk.{Mem, Below, Closed, children, children_at, member, visit, order, Reaches, Distinct}
use Rattle.semantics.proofs.Basics.{by_test, not_both}
use Rattle.semantics.proofs.Members.{mem_here, mem_there, mem_cases, not_in, cons_below}
use Rattle.semantics.proofs.Lists.{each_zero}
use Rattle.semantics.proofs.Records.{LowNode, LowRecord}
use Rattle.semantics.proofs.Walks.{fold_keeps, fold_has, visit_closed, fold_reach, visit_reach, closed_reach, reach_le, visit_distinct}

two_below : (n x y : ℕ) → x < n → y < n → Below n (x ∷ y ∷ [])
two_below n x y h k = cons_below n x (y ∷ []) h (cons_below n y [] k (λ c m. not_in c m))

children_below : (n : ℕ) (k : Node) → LowNode n k → Below n (children k)
unfolding children
children_below n (leaf x) w c m = not_in c m
children_below n (const v) w c m = not_in c m
children_below n (add x y) w c m = two_below n x y w.0 w.1 c m
children_below n (sub x y) w c m = two_below n x y w.0 w.1 c m
children_below n (neg x) w c m = two_below n x x w w c (mem_there c x (x ∷ []) m)
children_below n (mul x y) w c m = two_below n x y w.0 w.1 c m

module _ (rs : List Record) (ok : Each LowRecord 0 rs) where
  pub low : (r c : ℕ) → Mem c (children_at rs r) → c < r
  unfolding children_at record_at
  low r c m = go (ltb r (length rs)) refl
    where
      go : (t : Bool) → ltb r (length rs) ≡ t → c < r
      go true e = children_below r (node_of (get_or rs r no_record)) (each_zero LowRecord rs r no_record ok (ltb-true _ _ e)) c m
      go false e = unfold node_of children in (not_in c (rw (get_or-eq_default rs no_record (ltb-false _ _ e)) at m))

  module _ (roots : List ℕ) (named : Below (length rs) roots) where
    -- "Children come left first": every record's children stand before it.
    pub order_closed : Closed (children_at rs) (order rs roots)
    unfolding order
    order_closed =
        fold_keeps (Closed (children_at rs)) (visit (children_at rs) (length rs)) roots
        (λ s c m. visit_closed (children_at rs) low (length rs) s c (named c m)) [] tt

    pub order_roots : (c : ℕ) → Mem c roots → Mem c (order rs roots)
    unfolding order
    order_roots c m = fold_has (children_at rs) (length rs) roots [] named c m

    -- Only reached records, and all of them.
    pub order_reached : (x : ℕ) → Mem x (order rs roots) → (c : ℕ) × Mem c roots × Reaches (children_at rs) c x
    unfolding order
    order_reached x m = go (fold_reach (children_at rs) (length rs) roots [] x (λ u c q. visit_reach (children_at rs) (length rs) u c x) m)
      where
        go : Mem x [] ⊎ ((c : ℕ) × Mem c roots × Reaches (children_at rs) c x) → (c : ℕ) × Mem c roots × Reaches (children_at rs) c x
        go (inl a) = not_in x a
        go (inr a) = a

    pub order_all : (c x : ℕ) → Mem c roots → Reaches (children_at rs) c x → Mem x (order rs roots)
    order_all c x m q = closed_reach (children_at rs) (order rs roots) order_closed c x (order_roots c m) q

    pub order_below : Below (length rs) (order rs roots)
    order_below x m =
        let a = order_reached x m in
        omega (arith, named a.0 a.1, reach_le (children_at rs) low a.0 x a.2)

    -- Each once.
    pub order_distinct : Distinct (order rs roots)
    unfolding order
    order_distinct =
        fold_keeps Distinct (visit (children_at rs) (length rs)) roots (λ s c m. visit_distinct (children_at rs) low (length rs) s c) [] tt

-- Distinct numbers below n are at most n.
without : ℕ → List ℕ → List ℕ
without x [] = []
without x (y ∷ s) = cond (eqb x y) s (y ∷ without x s)

without_length : (x : ℕ) (s : List ℕ) → length s ≤ suc (length (without x s))
unfolding without
without_length x [] = omega arith
without_length x (y ∷ s) =
    let ih = without_length x s in
    by_test (λ (l : List ℕ). suc (length s) ≤ suc (length l)) (eqb x y) (λ e. omega arith) (λ e. omega arith)

without_mem : (x z : ℕ) (s : List ℕ) → Mem z (without x s) → Mem z s
unfolding without
without_mem x z [] = λ m. m
without_mem x z (y ∷ s) = by_test (λ (l : List ℕ). Mem z l → Mem z (y ∷ s)) (eqb x y) (λ e m. mem_there z y s m) (λ e m. go (mem_cases z y (without x s) m) (without_mem x z s))
  where
    go : (z ≡ y) ⊎ Mem z (without x s) → (Mem z (without x s) → Mem z s) → Mem z (y ∷ s)
    go (inl e) ih = subst (λ (q : ℕ). Mem q (y ∷ s)) (sym e) (mem_here y s)
    go (inr k) ih = mem_there z y s (ih k)

pub not_mem : (z : ℕ) (s t : List ℕ) → (Mem z t → Mem z s) → member z s ≡ false → member z t ≡ false
not_mem z s t h e = go (member z t) refl
  where
    go : (b : Bool) → member z t ≡ b → member z t ≡ false
    go true k = not_both (h k) e
    go false k = k

without_distinct : (x : ℕ) (s : List ℕ) → Distinct s → Distinct (without x s)
unfolding without
without_distinct x [] d = tt
without_distinct x (y ∷ s) d =
    let ih = without_distinct x s d.1 in
    by_test Distinct (eqb x y) (λ e. d.1) (λ e. (not_mem y s (without x s) (without_mem x y s) d.0, ih))

without_gone : (x : ℕ) (s : List ℕ) → Distinct s → Mem x (without x s) → ⊥
unfolding without
without_gone x [] d = λ m. not_in x m
without_gone x (y ∷ s) d =
    by_test (λ (l : List ℕ). Mem x l → ⊥) (eqb x y) (λ e m. not_both m (subst (λ (q : ℕ). member q s ≡ false) (sym (eqb-true x y e)) d.0))
    (λ e m. go e (mem_cases x y (without x s) m) (without_gone x s d.1))
  where
    go : eqb x y ≡ false → (x ≡ y) ⊎ Mem x (without x s) → (Mem x (without x s) → ⊥) → ⊥
    go e (inl q) ih = eqb-false x y e q
    go e (inr k) ih = ih k

pub distinct_length : (n : ℕ) (s : List ℕ) → Distinct s → Below n s → length s ≤ n
distinct_length zero [] d b = omega arith
distinct_length zero (x ∷ s) d b = absurd (omega (arith, b x (mem_here x s)))
distinct_length (suc n) s d b =
    let ih = distinct_length n (without n s) (without_distinct n s d) (λ x m. smaller x m (b x (without_mem n x s m))) in
    omega (arith, without_length n s)
  where
    smaller : (x : ℕ) → Mem x (without n s) → x < suc n → x < n
    smaller x m h = go (eqb x n) refl
      where
        go : (t : Bool) → eqb x n ≡ t → x < n
        go true e = absurd (without_gone n s d (subst (λ (q : ℕ). Mem q (without n s)) (eqb-true x n e) m))
        go false e = omega (arith, eqb-false x n e)
