-- The values of lists of monomials.
use mathlib.Core.Path.{◌≡◌, refl, sym, ◌∙◌}
use mathlib.Core.List.{List, [], ◌∷◌, ◌++◌, map}
use Prim.Native.Nat.{ℕ, ◌<◌}
use native.Mathlib.Omega.{arith}
use Rattle.semantics.specs.Arithmetic.{add_m, mul_m, neg_m}
use Rattle.semantics.specs.Packing.{unpacked}
use Rattle.semantics.specs.Value.{Leaf, leaf_of}
use Rattle.semantics.specs.Monomial.{Monomial, sort, above, neg_monomial, mul_monomial, products}
use Rattle.semantics.specs.Demand.{product_of}
use Rattle.semantics.proofs.Sorting.{sort_same}
use Rattle.semantics.proofs.Arithmetic.{add_m_lt, mul_m_lt, zero_add_m, sums, prods, ring, neg_m_zero, mul_m_zero, zero_mul_m, one_mul_m}

-- The value of a list, where each variable list has a weight: the product of its variables, or 1 at one list and 0 elsewhere.
module _ (p : ℕ) (w : List ℕ → ℕ) where
  unfoldable pub one : Monomial → ℕ
  one m = mul_m p m.coef (w m.vars)

  unfoldable pub val : List Monomial → ℕ
  val [] = 0
  val (m ∷ ms) = add_m p (one m) (val ms)

  -- The definitions' own equations, for `simp` where the definitions are shut.
  pub val_cons : (m : Monomial) (ms : List Monomial) → val (m ∷ ms) ≡ add_m p (one m) (val ms)
  unfolding val
  val_cons m ms = refl

  pub val_one : (m : Monomial) → one m ≡ mul_m p m.coef (w m.vars)
  unfolding one
  val_one m = refl

  pub val_neg_one : (m : Monomial) → one (neg_monomial p m) ≡ mul_m p (neg_m p m.coef) (w m.vars)
  unfolding one neg_monomial
  val_neg_one m = refl

  pub val_mul_one : (m n : Monomial) → one (mul_monomial p m n) ≡ mul_m p (mul_m p m.coef n.coef) (w (sort above (m.vars ++ n.vars)))
  unfolding one mul_monomial
  val_mul_one m n = refl

module _ (p : ℕ) (big : 1 < p) (w : List ℕ → ℕ) where
  pub val_lt : (xs : List Monomial) → val p w xs < p
  unfolding val
  val_lt [] = omega arith
  val_lt (m ∷ ms) = add_m_lt p big (one p w m) (val p w ms)

  pub val_append : (xs ys : List Monomial) → val p w (xs ++ ys) ≡ add_m p (val p w xs) (val p w ys)
  val_append [] ys = unfold val in (sym (zero_add_m p big (val p w ys) (val_lt ys)))
  val_append (x ∷ t) ys = let ih = val_append t ys in simp (val_cons, ih, sums)

  pub val_neg : (xs : List Monomial) → val p w (map (neg_monomial p) xs) ≡ neg_m p (val p w xs)
  val_neg [] = unfold val in (sym (neg_m_zero p big))
  val_neg (x ∷ t) = let ih = val_neg t in simp (val_cons, ih, val_neg_one, val_one, ring)

-- The product of variables does not depend on their order.
module _ (p : ℕ) (A : Leaf → ℕ) where
  pub product_cons : (v : ℕ) (vs : List ℕ) → product_of p A (v ∷ vs) ≡ mul_m p (A (leaf_of (unpacked v))) (product_of p A vs)
  unfolding product_of
  product_cons v vs = refl

module _ (p : ℕ) (big : 1 < p) (A : Leaf → ℕ) where
  pub product_lt : (vs : List ℕ) → product_of p A vs < p
  unfolding product_of
  product_lt [] = big
  product_lt (v ∷ vs) = mul_m_lt p big (A (leaf_of (unpacked v))) (product_of p A vs)

  product_sort : (vs : List ℕ) → product_of p A (sort above vs) ≡ product_of p A vs
  product_sort = sort_same above (product_of p A) (λ v s t e. simp (product_cons, e)) (λ v u t. simp (product_cons, prods))

  product_append : (vs ws : List ℕ) → product_of p A (vs ++ ws) ≡ mul_m p (product_of p A vs) (product_of p A ws)
  product_append [] ws = unfold product_of in (sym (one_mul_m p big (product_of p A ws) (product_lt ws)))
  product_append (v ∷ t) ws = let ih = product_append t ws in simp (product_cons, ih, prods)

  product_both : (vs ws : List ℕ) → product_of p A (sort above (vs ++ ws)) ≡ mul_m p (product_of p A vs) (product_of p A ws)
  product_both vs ws = product_sort (vs ++ ws) ∙ product_append vs ws

  val_scale : (x : Monomial) (ys : List Monomial)
      → val p (product_of p A) (map (mul_monomial p x) ys) ≡ mul_m p (one p (product_of p A) x) (val p (product_of p A) ys)
  val_scale x [] = unfold val in (sym (mul_m_zero p (one p (product_of p A) x)))
  val_scale x (y ∷ t) = let ih = val_scale x t in simp (val_cons, ih, val_mul_one, val_one, product_both, ring)

  pub val_mul : (xs ys : List Monomial)
      → val p (product_of p A) (products p xs ys) ≡ mul_m p (val p (product_of p A) xs) (val p (product_of p A) ys)
  unfolding products
  val_mul [] ys = unfold val in (sym (zero_mul_m p (val p (product_of p A) ys)))
  val_mul (x ∷ t) ys = let ih = val_mul t ys in simp (val_append, val_scale, val_cons, ih, ring)
