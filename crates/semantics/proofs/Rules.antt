-- The rules of the builder: what each gives may stand as a record, and has the value of the record that it is for.
use mathlib.Core.Path.{◌≡◌, refl, sym, ◌∙◌, ap, subst}
use mathlib.Core.Logic.{◌⊎◌, inl, inr}
use mathlib.Core.Bool.{true, true≢false, ◌||◌}
use Prim.Native.Nat.{ℕ, ◌<◌}
use borrow.Author.Tests.{eqb-true}
use Rattle.semantics.specs.Arithmetic.{add_m, sub_m, mul_m, neg_m}
use Rattle.semantics.specs.Sheet.{record_of, GoodRecord, row, table}
use Rattle.semantics.specs.Value.{Leaf, Node, leaf, const, add, sub, neg, mul, node_of, node_value}
use Rattle.semantics.specs.Graph.{Pick, present, make, if_constants, is_const, if_neg, add_rule, sub_rule, neg_rule, mul_rule}
use Rattle.semantics.proofs.Basics.{by_test, or_true}
use Rattle.semantics.proofs.Arithmetic.{add_m_lt, sub_m_lt, mul_m_lt, neg_m_lt, zero_add_m, add_m_zero, zero_mul_m, mul_m_zero, mul_m_one, one_mul_m, sub_m_add, neg_m_back, neg_m_zero}
use Rattle.semantics.proofs.Records.{LowNode, two_good, neg_good, const_good}

-- What holds of a choice by what the nodes are.
by_constants : {X : Type 0} (P : X → Type 0) (m n : Node) (f : ℕ → ℕ → X) (x : X)
    → ((a b : ℕ) → m ≡ const a → n ≡ const b → P (f a b)) → P x → P (if_constants m n f x)
unfolding if_constants
by_constants P (const a) (const b) f x h k = h a b refl refl
by_constants P (const a) (leaf v) f x h k = k
by_constants P (const a) (add l r) f x h k = k
by_constants P (const a) (sub l r) f x h k = k
by_constants P (const a) (neg y) f x h k = k
by_constants P (const a) (mul l r) f x h k = k
by_constants P (leaf v) n f x h k = k
by_constants P (add l r) n f x h k = k
by_constants P (sub l r) n f x h k = k
by_constants P (neg y) n f x h k = k
by_constants P (mul l r) n f x h k = k

by_neg : {X : Type 0} (P : X → Type 0) (m : Node) (f : ℕ → X) (x : X) → ((y : ℕ) → m ≡ neg y → P (f y)) → P x → P (if_neg m f x)
unfolding if_neg
by_neg P (neg y) f x h k = h y refl
by_neg P (const a) f x h k = k
by_neg P (leaf v) f x h k = k
by_neg P (add l r) f x h k = k
by_neg P (sub l r) f x h k = k
by_neg P (mul l r) f x h k = k

is_const_is : (k : ℕ) (n : Node) → is_const k n ≡ true → n ≡ const k
unfolding is_const
is_const_is k (const a) e = ap const (eqb-true a k e)
is_const_is k (leaf v) e = absurd (true≢false (sym e))
is_const_is k (add l r) e = absurd (true≢false (sym e))
is_const_is k (sub l r) e = absurd (true≢false (sym e))
is_const_is k (neg y) e = absurd (true≢false (sym e))
is_const_is k (mul l r) e = absurd (true≢false (sym e))

-- What a rule gives stands below n, or may stand as record n.
abbrev pub GoodPick : (p n : ℕ) → Pick → Type 0
GoodPick p n (present k) = k < n
GoodPick p n (make r) = GoodRecord p n r

module _ (p : ℕ) (big : 1 < p) (n l r : ℕ) (m k : Node) (g : ℕ) (hl : l < n) (hr : r < n) (hk : LowNode n k) where
  neg_low : (y : ℕ) → k ≡ neg y → y < n
  neg_low y e = subst (LowNode n) e hk

  pub add_good : GoodPick p n (add_rule p l r m k g)
  unfolding add_rule
  add_good =
      by_constants (GoodPick p n) m k (λ a b. make (record_of 5 (add_m p a b) 0 0 0)) _ (λ a b e f. const_good p n (add_m p a b) (add_m_lt p big a b))
      (by_test (GoodPick p n) (is_const 0 m) (λ e. hr) (λ e. by_test (GoodPick p n) (is_const 0 k) (λ f. hl)
      (λ f. by_neg (GoodPick p n) k (λ y. make (record_of 7 l y g 0)) (make (record_of 6 l r g 0))
      (λ y h. two_good p n 7 l y g refl (unfold row table in refl) hl (neg_low y h)) (two_good p n 6 l r g refl refl hl hr))))

  pub sub_good : GoodPick p n (sub_rule p l r m k g)
  unfolding sub_rule
  sub_good =
      by_constants (GoodPick p n) m k (λ a b. make (record_of 5 (sub_m p a b) 0 0 0)) _ (λ a b e f. const_good p n (sub_m p a b) (sub_m_lt p big a b))
      (by_test (GoodPick p n) (is_const 0 k) (λ f. hl)
      (λ f. by_neg (GoodPick p n) k (λ y. make (record_of 6 l y g 0)) (make (record_of 7 l r g 0))
      (λ y h. two_good p n 6 l y g refl refl hl (neg_low y h)) (two_good p n 7 l r g refl (unfold row table in refl) hl hr)))

  pub mul_good : GoodPick p n (mul_rule p l r m k g)
  unfolding mul_rule
  mul_good =
      by_constants (GoodPick p n) m k (λ a b. make (record_of 5 (mul_m p a b) 0 0 0)) _ (λ a b e f. const_good p n (mul_m p a b) (mul_m_lt p big a b))
      (by_test (GoodPick p n) (is_const 0 m || is_const 1 k) (λ e. hl) (λ e. by_test (GoodPick p n) (is_const 0 k || is_const 1 m) (λ f. hr)
      (λ f. two_good p n 9 l r g refl (unfold row table in refl) hl hr)))

pub neg_rule_good : (p : ℕ) → 1 < p → (n x : ℕ) (m : Node) (g : ℕ) → x < n → GoodPick p n (neg_rule p x m g)
unfolding neg_rule
neg_rule_good p big n x m g h =
    by_constants (GoodPick p n) m m (λ a b. make (record_of 5 (neg_m p a) 0 0 0)) (make (record_of 8 x 0 g 0))
    (λ a b e f. const_good p n (neg_m p a) (neg_m_lt p big a)) (neg_good p n x g h)

-- The value of what a rule gives, where the nodes so far have the values W.
module _ (p : ℕ) (A : Leaf → ℕ) (W : ℕ → ℕ) where
  unfoldable pub pick_value : Pick → ℕ
  pick_value (present n) = W n
  pick_value (make r) = node_value p A (node_of r) W

  taken : (n : ℕ) → pick_value (present n) ≡ W n
  unfolding pick_value
  taken n = refl

  made_const : (k : ℕ) → pick_value (make (record_of 5 k 0 0 0)) ≡ k
  unfolding pick_value node_value node_of
  made_const k = refl

  made_add : (l r g : ℕ) → pick_value (make (record_of 6 l r g 0)) ≡ add_m p (W l) (W r)
  unfolding pick_value node_value node_of
  made_add l r g = refl

  made_sub : (l r g : ℕ) → pick_value (make (record_of 7 l r g 0)) ≡ sub_m p (W l) (W r)
  unfolding pick_value node_value node_of
  made_sub l r g = refl

  made_neg : (x g : ℕ) → pick_value (make (record_of 8 x 0 g 0)) ≡ neg_m p (W x)
  unfolding pick_value node_value node_of
  made_neg x g = refl

  made_mul : (l r g : ℕ) → pick_value (make (record_of 9 l r g 0)) ≡ mul_m p (W l) (W r)
  unfolding pick_value node_value node_of
  made_mul l r g = refl

  -- A node that is a constant, or Neg.
  const_value : (x : ℕ) (m : Node) → W x ≡ node_value p A m W → (a : ℕ) → m ≡ const a → W x ≡ a
  unfolding node_value
  const_value x m v a e = v ∙ ap (λ (y : Node). node_value p A y W) e

  is_const_value : (x : ℕ) (m : Node) → W x ≡ node_value p A m W → (a : ℕ) → is_const a m ≡ true → W x ≡ a
  is_const_value x m v a e = const_value x m v a (is_const_is a m e)

  neg_value : (x : ℕ) (m : Node) → W x ≡ node_value p A m W → (y : ℕ) → m ≡ neg y → W x ≡ neg_m p (W y)
  unfolding node_value
  neg_value x m v y e = v ∙ ap (λ (z : Node). node_value p A z W) e

  pub neg_rule_value : (x : ℕ) (m : Node) (g : ℕ) → W x ≡ node_value p A m W → pick_value (neg_rule p x m g) ≡ neg_m p (W x)
  unfolding neg_rule
  neg_rule_value x m g v =
      by_constants (λ (q : Pick). pick_value q ≡ neg_m p (W x)) m m (λ a b. make (record_of 5 (neg_m p a) 0 0 0)) (make (record_of 8 x 0 g 0))
      (λ a b e f. made_const (neg_m p a) ∙ ap (neg_m p) (sym (const_value x m v a e))) (made_neg x g)

module _ (p : ℕ) (big : 1 < p) (A : Leaf → ℕ) (W : ℕ → ℕ) (small : (i : ℕ) → W i < p) (l r : ℕ) (m n : Node) (g : ℕ)
    (vl : W l ≡ node_value p A m W) (vr : W r ≡ node_value p A n W) where
  pub add_rule_value : pick_value p A W (add_rule p l r m n g) ≡ add_m p (W l) (W r)
  unfolding add_rule
  add_rule_value =
      let P : Pick → Type 0 = λ q. pick_value p A W q ≡ add_m p (W l) (W r) in
      by_constants P m n (λ a b. make (record_of 5 (add_m p a b) 0 0 0)) _
      (λ a b e f. simp (made_const, const_value p A W l m vl a e, const_value p A W r n vr b f))
      (by_test P (is_const 0 m) (λ e. simp (taken, is_const_value p A W l m vl 0 e, zero_add_m, small))
      (λ e. by_test P (is_const 0 n) (λ f. simp (taken, is_const_value p A W r n vr 0 f, add_m_zero, small))
      (λ f. by_neg P n (λ y. make (record_of 7 l y g 0)) (make (record_of 6 l r g 0))
      (λ y h. simp (made_sub, sub_m_add, neg_value p A W r n vr y h)) (made_add p A W l r g))))

  pub sub_rule_value : pick_value p A W (sub_rule p l r m n g) ≡ sub_m p (W l) (W r)
  unfolding sub_rule
  sub_rule_value =
      let P : Pick → Type 0 = λ q. pick_value p A W q ≡ sub_m p (W l) (W r) in
      by_constants P m n (λ a b. make (record_of 5 (sub_m p a b) 0 0 0)) _
      (λ a b e f. simp (made_const, const_value p A W l m vl a e, const_value p A W r n vr b f))
      (by_test P (is_const 0 n) (λ f. simp (taken, is_const_value p A W r n vr 0 f, sub_m_add, neg_m_zero, add_m_zero, small))
      (λ f. by_neg P n (λ y. make (record_of 6 l y g 0)) (make (record_of 7 l r g 0))
      (λ y h. simp (made_add, sub_m_add, neg_value p A W r n vr y h, neg_m_back, small)) (made_sub p A W l r g)))

  left_stays : (is_const 0 m ≡ true) ⊎ (is_const 1 n ≡ true) → W l ≡ mul_m p (W l) (W r)
  left_stays (inl e) = simp (is_const_value p A W l m vl 0 e, zero_mul_m)
  left_stays (inr e) = simp (is_const_value p A W r n vr 1 e, mul_m_one, small)

  right_stays : (is_const 0 n ≡ true) ⊎ (is_const 1 m ≡ true) → W r ≡ mul_m p (W l) (W r)
  right_stays (inl e) = simp (is_const_value p A W r n vr 0 e, mul_m_zero)
  right_stays (inr e) = simp (is_const_value p A W l m vl 1 e, one_mul_m, small)

  pub mul_rule_value : pick_value p A W (mul_rule p l r m n g) ≡ mul_m p (W l) (W r)
  unfolding mul_rule
  mul_rule_value =
      let P : Pick → Type 0 = λ q. pick_value p A W q ≡ mul_m p (W l) (W r) in
      by_constants P m n (λ a b. make (record_of 5 (mul_m p a b) 0 0 0)) _
      (λ a b e f. simp (made_const, const_value p A W l m vl a e, const_value p A W r n vr b f))
      (by_test P (is_const 0 m || is_const 1 n) (λ e. taken p A W l ∙ left_stays (or_true _ _ e))
      (λ e. by_test P (is_const 0 n || is_const 1 m) (λ f. taken p A W r ∙ right_stays (or_true _ _ f)) (λ f. made_mul p A W l r g)))
