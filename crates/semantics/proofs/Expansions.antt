-- Wherever an expansion's walk accepts, each reached record's list has the record's value.
use mathlib.Core.Path.{◌≡◌, refl, sym, ◌∙◌, ap, subst}
use mathlib.Core.Logic.{◌⊎◌, inl, inr}
use mathlib.Core.Bool.{cond}
use mathlib.Core.List.{List, [], ◌∷◌}
use Prim.Native.Nat.{ℕ, ◌<◌}
use native.Mathlib.Nat.{zero-add}
use lib.Dec.{eqb}
use lib.ListN.{length, get_or}
use borrow.Author.Tests.{eqb-true}
use Rattle.semantics.specs.Answer.{Answer, good, refused, and_then}
use Rattle.semantics.specs.Sheet.{Record, Each, GoodRecord}
use Rattle.semantics.specs.Packing.{packed, pack_fault, unpacked}
use Rattle.semantics.specs.Value.{Leaf, Node, leaf, const, add, sub, neg, mul, leaf_of, node_of, no_record, record_at, fill, node_value, value_at}
use Rattle.semantics.specs.Walk.{Mem, Closed, children, children_at}
use Rattle.semantics.specs.Monomial.{Monomial, working, finished, record_list, lists, list_at}
use Rattle.semantics.specs.Expand.{record_fault, expand_record, expand_all}
use Rattle.semantics.specs.Demand.{product_of}
use Rattle.semantics.proofs.Basics.{by_test}
use Rattle.semantics.proofs.Members.{mem_here, mem_there, mem_cases, not_in}
use Rattle.semantics.proofs.Arithmetic.{add_m_zero, mul_m_one, one_mul_m, sub_m_add}
use Rattle.semantics.proofs.Monomials.{one, val, val_append, val_neg, val_mul}
use Rattle.semantics.proofs.Combining.{val_combine}
use Rattle.semantics.proofs.Lists.{each_zero}
use Rattle.semantics.proofs.Passes.{fill_at}
use Rattle.semantics.proofs.Encoding.{refused≢good}
use Rattle.semantics.proofs.Packed.{leaf_back}
use Rattle.semantics.proofs.Records.{LowNode, LowRecord, each_low, good_value, value_at_lem}

-- A record's list is made of its children's.
module _ (p : ℕ) where
  node_list_low : (n : ℕ) (r : Record) (k : Node) → LowNode n k → (f g : ℕ → List Monomial) → ((i : ℕ) → i < n → f i ≡ g i)
      → finished p k (working p r k f) ≡ finished p k (working p r k g)
  unfolding finished working
  node_list_low n r (leaf x) w f g h = refl
  node_list_low n r (const k) w f g h = refl
  node_list_low n r (add x y) w f g h = cc (h x w.0, h y w.1)
  node_list_low n r (sub x y) w f g h = cc (h x w.0, h y w.1)
  node_list_low n r (neg x) w f g h = cc (h x w)
  node_list_low n r (mul x y) w f g h = cc (h x w.0, h y w.1)

  list_low : (n : ℕ) (r : Record) → LowRecord n r → (f g : ℕ → List Monomial) → ((i : ℕ) → i < n → f i ≡ g i) → record_list p r f ≡ record_list p r g
  unfolding record_list
  list_low n r = node_list_low n r (node_of r)

  pub list_at_lem : (rs : List Record) → Each LowRecord 0 rs → (i : ℕ) → i < length rs
      → list_at p rs i ≡ record_list p (record_at rs i) (list_at p rs)
  unfolding list_at lists record_at
  list_at_lem rs w i h =
      ap (λ (k : ℕ). get_or (fill (record_list p) [] [] rs) k []) (sym (zero-add i))
      ∙ fill_at (record_list p) [] LowRecord list_low 0 [] rs no_record i refl w h

-- A record that is not refused can be packed, if it is a leaf.
first_fault : (a b : ℕ) → cond (eqb a 0) b a ≡ 0 → a ≡ 0
first_fault a b = by_test (λ (n : ℕ). n ≡ 0 → a ≡ 0) (eqb a 0) (λ e h. eqb-true a 0 e) (λ e h. h)

module _ (p : ℕ) (rs : List Record) where
  pub packs_fine : (i : ℕ) → record_fault p rs i ≡ 0 → pack_fault (record_at rs i) ≡ 0
  unfolding record_fault
  packs_fine i = first_fault (pack_fault (record_at rs i)) _

-- An accepted walk met no refusal at any of its records.
module _ (p : ℕ) (rs : List Record) (pool : ℕ) where
  record_fine : (i used u : ℕ) → expand_record p rs pool i used ≡ good u → record_fault p rs i ≡ 0
  unfolding expand_record
  record_fine i used u =
      by_test (λ (a : Answer ℕ). a ≡ good u → record_fault p rs i ≡ 0) (eqb (record_fault p rs i) 0) (λ e q. eqb-true _ _ e) (λ e q. refused≢good q)

  pub walk_fine : (s : List ℕ) (u : ℕ) → expand_all p rs pool s ≡ good u → (i : ℕ) → Mem i s → record_fault p rs i ≡ 0
  unfolding expand_all
  walk_fine [] u e i m = not_in i m
  walk_fine (j ∷ s) u e i m = go (λ v q k. walk_fine s v q i k) (expand_all p rs pool s) refl (mem_cases i j s m) e
    where
      go : ((v : ℕ) → expand_all p rs pool s ≡ good v → Mem i s → record_fault p rs i ≡ 0) → (a : Answer ℕ) → expand_all p rs pool s ≡ a
          → (i ≡ j) ⊎ Mem i s → and_then a (expand_record p rs pool j) ≡ good u → record_fault p rs i ≡ 0
      go ih (good v) q (inl d) f = unfold and_then in (subst (λ (k : ℕ). record_fault p rs k ≡ 0) (sym d) (record_fine j v u f))
      go ih (good v) q (inr k) f = ih v q k
      go ih (refused n k) q d f = unfold and_then in (refused≢good f)

module _ (p : ℕ) (big : 1 < p) (A : Leaf → ℕ) (small : (x : Leaf) → A x < p) where
  single : (v : ℕ) → val p (product_of p A) (record { vars = v ∷ []; coef = 1 } ∷ []) ≡ A (leaf_of (unpacked v))
  unfolding val one product_of
  single v = let h = small (leaf_of (unpacked v)) in simp (mul_m_one, one_mul_m, add_m_zero)

  plain : (k : ℕ) → k < p → val p (product_of p A) (record { vars = []; coef = k } ∷ []) ≡ k
  unfolding val one product_of
  plain k h = simp (mul_m_one, add_m_zero)

  module _ (own : ℕ) (r : Record) (ok : GoodRecord p own r) (packs : pack_fault r ≡ 0) where
    node_keeps : (k : Node) → node_of r ≡ k → (f : ℕ → List Monomial) (g : ℕ → ℕ) → ((c : ℕ) → Mem c (children k) → val p (product_of p A) (f c) ≡ g c)
        → val p (product_of p A) (finished p k (working p r k f)) ≡ node_value p A k g
    unfolding finished working node_value children
    node_keeps (leaf x) e f g h = single (packed r) ∙ ap A (leaf_back p own r x ok e packs)
    node_keeps (const k) e f g h = plain k (subst (λ (n : Node). node_value p A n g < p) e (good_value p big A small own r ok g))
    node_keeps (add x y) e f g h =
        let hx = h x (mem_here x (y ∷ [])) in
        let hy = h y (mem_there y x (y ∷ []) (mem_here y [])) in
        simp (val_combine, val_append, hx, hy)
    node_keeps (sub x y) e f g h =
        let hx = h x (mem_here x (y ∷ [])) in
        let hy = h y (mem_there y x (y ∷ []) (mem_here y [])) in
        simp (val_combine, val_append, val_neg, hx, hy, sub_m_add)
    node_keeps (neg x) e f g h = let hx = h x (mem_here x []) in simp (val_neg, hx)
    node_keeps (mul x y) e f g h =
        let hx = h x (mem_here x (y ∷ [])) in
        let hy = h y (mem_there y x (y ∷ []) (mem_here y [])) in
        simp (val_combine, val_mul, hx, hy)

  -- The value rule for the records of an order.
  module _ (rs : List Record) (ok : Each (GoodRecord p) 0 rs) where
    one_keeps : (i : ℕ) → i < length rs → record_fault p rs i ≡ 0
        → ((c : ℕ) → Mem c (children_at rs i) → val p (product_of p A) (list_at p rs c) ≡ value_at p A rs c)
        → val p (product_of p A) (list_at p rs i) ≡ value_at p A rs i
    unfolding children_at
    one_keeps i l q h =
        ap (val p (product_of p A)) (list_at_lem p rs (each_low p 0 rs ok) i l)
        ∙ unfold record_list in
        (node_keeps i (record_at rs i) (unfold record_at in (each_zero (GoodRecord p) rs i no_record ok l)) (packs_fine p rs i q)
        (node_of (record_at rs i)) refl (list_at p rs) (value_at p A rs) h)
        ∙ sym (value_at_lem p A rs (each_low p 0 rs ok) i l)

    pub lists_keep : (s : List ℕ) → Closed (children_at rs) s → ((i : ℕ) → Mem i s → i < length rs) → ((i : ℕ) → Mem i s → record_fault p rs i ≡ 0)
        → (i : ℕ) → Mem i s → val p (product_of p A) (list_at p rs i) ≡ value_at p A rs i
    lists_keep [] k b q i m = not_in i m
    lists_keep (j ∷ s) k b q i m =
        go (lists_keep s k.1 (λ x u. b x (mem_there x j s u)) (λ x u. q x (mem_there x j s u))) (mem_cases i j s m)
      where
        go : ((x : ℕ) → Mem x s → val p (product_of p A) (list_at p rs x) ≡ value_at p A rs x)
            → (i ≡ j) ⊎ Mem i s → val p (product_of p A) (list_at p rs i) ≡ value_at p A rs i
        go ih (inl e) =
            subst (λ (x : ℕ). val p (product_of p A) (list_at p rs x) ≡ value_at p A rs x) (sym e)
            (one_keeps j (b j (mem_here j s)) (q j (mem_here j s)) (λ c u. ih c (k.0 c u)))
        go ih (inr u) = ih i u
