-- Every record's list ascends strictly, and its coefficients are below p; where the walk accepts, no monomial has more than 14 variables.
use mathlib.Core.Path.{◌≡◌, refl, sym, subst}
use mathlib.Core.Bool.{Bool, true, false, ◌||◌}
use mathlib.Core.List.{List, [], ◌∷◌, ◌++◌, map}
use Prim.Native.Nat.{ℕ, suc, ◌≤◌, ◌<◌}
use native.Mathlib.Omega.{arith}
use lib.Dec.{eqb, ltb}
use lib.ListN.{length}
use borrow.Author.Tests.{eqb-false, ltb-false}
use Rattle.semantics.specs.Sheet.{Record, Each, GoodRecord}
use Rattle.semantics.specs.Packing.{pack_fault}
use Rattle.semantics.specs.Value.{Leaf, Node, leaf, const, add, sub, neg, mul, node_of, record_at, node_value, fill}
use Rattle.semantics.specs.Monomial.{Asc, Monomial, plus, neg_monomial, mul_monomial, products, combine, working, finished, record_list, lists, list_at}
use Rattle.semantics.specs.Expand.{longer, work_fault, record_fault}
use Rattle.semantics.specs.Lists.{All}
use Rattle.semantics.proofs.Basics.{by_test, not_both}
use Rattle.semantics.proofs.Arithmetic.{mul_m_lt, neg_m_lt}
use Rattle.semantics.proofs.Sorting.{all_append, all_at, all_map}
use Rattle.semantics.proofs.Combining.{Above, asc_combine, Small, all_combine, small_plus}
use Rattle.semantics.proofs.Passes.{fill_all}
use Rattle.semantics.proofs.Records.{each_low, good_value}
use Rattle.semantics.proofs.Expansions.{list_at_lem}

-- What a list has, whatever it holds.
any : {X : Type 0} (xs : List X) → All (λ (x : X). Unit {0}) xs
any [] = tt
any (x ∷ xs) = (tt, any xs)

-- Negation keeps the order.
above_neg : (p : ℕ) (v : List ℕ) (xs : List Monomial) → Above v xs → Above v (map (neg_monomial p) xs)
unfolding neg_monomial
above_neg p v [] h = tt
above_neg p v (x ∷ xs) h = (h.0, above_neg p v xs h.1)

asc_neg : (p : ℕ) (xs : List Monomial) → Asc xs → Asc (map (neg_monomial p) xs)
unfolding neg_monomial
asc_neg p [] h = tt
asc_neg p (x ∷ xs) h = (above_neg p x.vars xs h.0, asc_neg p xs h.1)

module _ (p : ℕ) where
  node_ascends : (r : Record) (n : Node) (f : ℕ → List Monomial) → ((i : ℕ) → Asc (f i)) → Asc (finished p n (working p r n f))
  unfolding finished working
  node_ascends r (leaf x) f h = (tt, tt)
  node_ascends r (const k) f h = (tt, tt)
  node_ascends r (add x y) f h = asc_combine p (f x ++ f y)
  node_ascends r (sub x y) f h = asc_combine p (f x ++ map (neg_monomial p) (f y))
  node_ascends r (neg x) f h = asc_neg p (f x) (h x)
  node_ascends r (mul x y) f h = asc_combine p (products p (f x) (f y))

  pub lists_ascend : (rs : List Record) (i : ℕ) → Asc (list_at p rs i)
  unfolding list_at lists
  lists_ascend rs i =
      all_at Asc (fill (record_list p) [] [] rs) i [] tt
      (fill_all (record_list p) [] (λ (r : Record). Unit {0}) Asc tt (λ r f q h. unfold record_list in (node_ascends r (node_of r) f h)) [] rs (any rs) tt)

-- Coefficients below p.
module _ (p : ℕ) (big : 1 < p) where
  small_row : (x : Monomial) (ys : List Monomial) → All (Small p) (map (mul_monomial p x) ys)
  unfolding mul_monomial
  small_row x ys = all_map (λ (m : Monomial). Unit {0}) (Small p) (mul_monomial p x) (λ m h. mul_m_lt p big x.coef m.coef) ys (any ys)

  small_neg : (xs : List Monomial) → All (Small p) (map (neg_monomial p) xs)
  unfolding neg_monomial
  small_neg xs = all_map (λ (m : Monomial). Unit {0}) (Small p) (neg_monomial p) (λ m h. neg_m_lt p big m.coef) xs (any xs)

  small_products : (xs ys : List Monomial) → All (Small p) (products p xs ys)
  unfolding products
  small_products [] ys = tt
  small_products (x ∷ xs) ys = all_append (Small p) (map (mul_monomial p x) ys) (products p xs ys) (small_row x ys) (small_products xs ys)

  small_combine : (ms : List Monomial) → All (Small p) ms → All (Small p) (combine p ms)
  small_combine = all_combine p (Small p) (small_plus p big)

  -- A constant of a record that may stand is below p.
  const_small : (own : ℕ) (r : Record) → GoodRecord p own r → (k : ℕ) → node_of r ≡ const k → k < p
  unfolding node_value
  const_small own r ok k e = subst (λ (n : Node). node_value p (λ (x : Leaf). 0) n (λ i. 0) < p) e (good_value p big (λ (x : Leaf). 0) (λ x. omega arith) own r ok (λ i. 0))

  node_small : (own : ℕ) (r : Record) → GoodRecord p own r → (n : Node) → node_of r ≡ n → (f : ℕ → List Monomial) → ((i : ℕ) → All (Small p) (f i))
      → All (Small p) (finished p n (working p r n f))
  unfolding finished working
  node_small own r ok (leaf x) e f h = (big, tt)
  node_small own r ok (const k) e f h = (const_small own r ok k e, tt)
  node_small own r ok (add x y) e f h = small_combine (f x ++ f y) (all_append (Small p) (f x) (f y) (h x) (h y))
  node_small own r ok (sub x y) e f h =
      small_combine (f x ++ map (neg_monomial p) (f y)) (all_append (Small p) (f x) (map (neg_monomial p) (f y)) (h x) (small_neg (f y)))
  node_small own r ok (neg x) e f h = small_neg (f x)
  node_small own r ok (mul x y) e f h = small_combine (products p (f x) (f y)) (small_products (f x) (f y))

  -- A record that may stand at some number.
  abbrev Stands : Record → Type 0
  Stands r = (own : ℕ) × GoodRecord p own r

  all_stand : (n : ℕ) (rs : List Record) → Each (GoodRecord p) n rs → All Stands rs
  all_stand n [] w = tt
  all_stand n (r ∷ rs) w = ((n, w.0), all_stand (suc n) rs w.1)

  pub lists_small : (rs : List Record) → Each (GoodRecord p) 0 rs → (i : ℕ) → All (Small p) (list_at p rs i)
  unfolding list_at lists
  lists_small rs w i =
      all_at (All (Small p)) (fill (record_list p) [] [] rs) i [] tt
      (fill_all (record_list p) [] Stands (All (Small p)) tt
      (λ r f q h. unfold record_list in (node_small q.0 r q.1 (node_of r) refl f h)) [] rs (all_stand 0 rs w) tt)

-- At most 14 variables.
abbrev pub Few : Monomial → Type 0
Few m = length m.vars ≤ 14

few_plus : (p : ℕ) (m x : Monomial) → Few m → Few x → Few (plus p m x)
unfolding plus
few_plus p m x h k = k

not_longer : (ms : List Monomial) → longer 14 ms ≡ false → All Few ms
not_longer [] e = tt
not_longer (m ∷ ms) e = go (ltb 14 (length m.vars)) refl (unfold longer in e) (not_longer ms)
  where
    go : (t : Bool) → ltb 14 (length m.vars) ≡ t → t || longer 14 ms ≡ false → (longer 14 ms ≡ false → All Few ms) → All Few (m ∷ ms)
    go true f q ih = not_both refl q
    go false f q ih = (ltb-false 14 (length m.vars) f, ih q)

work_fine : (ms : List Monomial) → work_fault ms ≡ 0 → All Few ms
unfolding work_fault
work_fine ms =
    by_test (λ (n : ℕ). n ≡ 0 → All Few ms) (ltb 256 (length ms)) (λ e h. absurd (omega arith))
    (λ e. by_test (λ (n : ℕ). n ≡ 0 → All Few ms) (longer 14 ms) (λ f h. absurd (omega arith)) (λ f h. not_longer ms f))

module _ (p : ℕ) (rs : List Record) where
  working_fine : (i : ℕ) → record_fault p rs i ≡ 0 → work_fault (working p (record_at rs i) (node_of (record_at rs i)) (list_at p rs)) ≡ 0
  unfolding record_fault
  working_fine i =
      by_test (λ (n : ℕ). n ≡ 0 → work_fault (working p (record_at rs i) (node_of (record_at rs i)) (list_at p rs)) ≡ 0) (eqb (pack_fault (record_at rs i)) 0)
      (λ e h. h) (λ e h. absurd (eqb-false (pack_fault (record_at rs i)) 0 e h))

  few_finished : (n : Node) (ms : List Monomial) → All Few ms → All Few (finished p n ms)
  unfolding finished
  few_finished (leaf x) ms h = h
  few_finished (const k) ms h = h
  few_finished (add x y) ms h = all_combine p Few (few_plus p) ms h
  few_finished (sub x y) ms h = all_combine p Few (few_plus p) ms h
  few_finished (neg x) ms h = h
  few_finished (mul x y) ms h = all_combine p Few (few_plus p) ms h

  pub list_few : Each (GoodRecord p) 0 rs → (i : ℕ) → i < length rs → record_fault p rs i ≡ 0 → All Few (list_at p rs i)
  list_few w i l h =
      subst (All Few) (sym (list_at_lem p rs (each_low p 0 rs w) i l))
      (unfold record_list in (few_finished (node_of (record_at rs i)) _ (work_fine _ (working_fine i h))))
