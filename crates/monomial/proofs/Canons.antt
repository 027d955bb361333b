-- A list that ascends strictly with no coefficient 0 and none from p on is known by its coefficients.
-- So to sum monomials from the first to the last gives what combining gives.
use mathlib.Core.Path.{◌≡◌, refl, sym, ◌∙◌, ap}
use mathlib.Core.Bool.{Bool, true, false, cond}
use mathlib.Core.List.{List, [], ◌∷◌, ◌++◌}
use Prim.Native.Nat.{ℕ, suc, ◌+◌, ◌≤◌, ◌<◌}
use native.Mathlib.Omega.{arith}
use lib.ListN.{length, length-append}
use borrow.Author.Tests.{ltb-true, ltb-false, lt-ltb, le-ltb}
use Rattle.semantics.specs.Arithmetic.{prime, add_m}
use Rattle.semantics.specs.Monomial.{Asc, Monomial, before_vars, sort, above, plus, neg_monomial, mul_monomial, insert_monomial, combine}
use Rattle.semantics.specs.Lists.{All, Sorted}
use Rattle.semantics.proofs.Arithmetic.{add_m_lt, mul_m_lt, neg_m_lt, add_m_comm, add_m_cancel, zero_add_m, add_m_zero, mul_m_zero, mul_m_one, sums}
use Rattle.semantics.proofs.Order.{before_vars_irrefl, before_vars_total, same_vars}
use Rattle.semantics.proofs.Sorting.{sort_same, sorted_sort}
use Rattle.semantics.proofs.Monomials.{one, val, val_cons, val_one, val_lt}
use Rattle.semantics.proofs.Combining.{Above, NoZero, above_trans, val_insert, val_combine, asc_insert, asc_combine, nz_insert, nz_combine, Small, all_insert, all_combine, small_plus}
use Rattle.monomial.specs.Words.{constant, single, Fits, insert_all}

-- The weight of one variable list: `val p (only_at v)` is the coefficient at v.
unfoldable pub only_at : List ℕ → List ℕ → ℕ
only_at v u = cond (same_vars v u) 1 0

at_same : (v : List ℕ) → only_at v v ≡ 1
unfolding only_at same_vars
at_same v = rw (before_vars_irrefl v, same_vars)

at_below : (v u : List ℕ) → before_vars v u ≡ true → only_at v u ≡ 0
unfolding only_at same_vars
at_below v u h = rw (h, same_vars)

pub record Canon (p : ℕ) (xs : List Monomial) : Type 0 where
  pub asc : Asc xs
  pub nz : NoZero xs
  pub small : All (Small p) xs

canon_tail : {p : ℕ} {x : Monomial} {xs : List Monomial} → Canon p (x ∷ xs) → Canon p xs
canon_tail c = record { asc = c.asc.1; nz = c.nz.1; small = c.small.1 }

-- The same coefficients.
abbrev pub Alike : ℕ → List Monomial → List Monomial → Type 0
Alike p xs ys = (v : List ℕ) → val p (only_at v) xs ≡ val p (only_at v) ys

module _ (p : ℕ) (big : 1 < p) where
  above_zero : (v : List ℕ) (xs : List Monomial) → Above v xs → val p (only_at v) xs ≡ 0
  above_zero v [] = λ h. unfold val in refl
  above_zero v (x ∷ t) =
      let ih = above_zero v t in
      λ h. simp (val_cons, val_one, at_below v x.vars h.0, mul_m_zero, ih h.1) (zero_add_m p big 0 (omega arith))

  head_coef : (x : Monomial) (xs : List Monomial) → x.coef < p → Above x.vars xs → val p (only_at x.vars) (x ∷ xs) ≡ x.coef
  head_coef x xs h k = simp (val_cons, val_one, at_same, mul_m_one, above_zero x.vars xs k, add_m_zero)

  -- Neither of two alike lists begins before the other.
  no_before : (x : Monomial) (xs ys : List Monomial) → Canon p (x ∷ xs) → Above x.vars ys → Alike p (x ∷ xs) ys → ⊥
  no_before x xs ys c k h = c.nz.0 (sym (head_coef x xs c.small.0 c.asc.0) ∙ h x.vars ∙ above_zero x.vars ys k)

  head_same : (x y : Monomial) (xs ys : List Monomial) → Canon p (x ∷ xs) → Canon p (y ∷ ys) → x.vars ≡ y.vars → Alike p (x ∷ xs) (y ∷ ys) → x ≡ y
  head_same x y xs ys c d e h =
      let f : x.coef ≡ y.coef = sym (head_coef x xs c.small.0 c.asc.0) ∙ h x.vars ∙ rw e (head_coef y ys d.small.0 d.asc.0) in
      λ i. record { vars = e i; coef = f i }

  tail_same : (x y : Monomial) (xs ys : List Monomial) → x ≡ y → Alike p (x ∷ xs) (y ∷ ys) → Alike p xs ys
  tail_same x y xs ys q h v =
      add_m_cancel p big (val p (only_at v) xs) (val p (only_at v) ys) (one p (only_at v) x) (val_lt p big (only_at v) xs) (val_lt p big (only_at v) ys)
      (add_m_comm p (val p (only_at v) xs) (one p (only_at v) x)
      ∙ sym (val_cons p (only_at v) x xs) ∙ h v ∙ val_cons p (only_at v) y ys
      ∙ add_m_comm p (one p (only_at v) y) (val p (only_at v) ys) ∙ rw q)

  pub canon_ext : (xs ys : List Monomial) → Canon p xs → Canon p ys → Alike p xs ys → xs ≡ ys
  canon_ext [] [] c d h = refl
  canon_ext [] (y ∷ ys) c d h = absurd (no_before y ys [] d tt (λ v. sym (h v)))
  canon_ext (x ∷ xs) [] c d h = absurd (no_before x xs [] c tt h)
  canon_ext (x ∷ xs) (y ∷ ys) c d h = go (before_vars x.vars y.vars) (before_vars y.vars x.vars) refl refl (canon_ext xs ys (canon_tail c) (canon_tail d))
    where
      go : (s t : Bool) → before_vars x.vars y.vars ≡ s → before_vars y.vars x.vars ≡ t → (Alike p xs ys → xs ≡ ys) → x ∷ xs ≡ y ∷ ys
      go true t e f ih = absurd (no_before x xs (y ∷ ys) c (e, above_trans x.vars y.vars ys e d.asc.0) h)
      go false true e f ih = absurd (no_before y ys (x ∷ xs) d (f, above_trans y.vars x.vars xs f c.asc.0) (λ v. sym (h v)))
      go false false e f ih =
          let q : x ≡ y = head_same x y xs ys c d (before_vars_total x.vars y.vars e f) h in
          let r : xs ≡ ys = ih (tail_same x y xs ys q h) in
          cc

  pub canon_insert : (m : Monomial) (xs : List Monomial) → m.coef < p → Canon p xs → Canon p (insert_monomial p m xs)
  canon_insert m xs h c = record {
    asc = asc_insert p m xs c.asc;
    nz = nz_insert p m xs c.nz;
    small = all_insert p (Small p) (small_plus p big) m xs h c.small;
  }

  pub canon_combine : (xs : List Monomial) → All (Small p) xs → Canon p (combine p xs)
  canon_combine xs k = record { asc = asc_combine p xs; nz = nz_combine p xs; small = all_combine p (Small p) (small_plus p big) xs k }

  -- A canonical list with the coefficients of xs is what xs combines to.
  pub combine_is : (xs ys : List Monomial) → All (Small p) xs → Canon p ys → Alike p xs ys → combine p xs ≡ ys
  combine_is xs ys k c h = canon_ext (combine p xs) ys (canon_combine xs k) c (λ v. val_combine p big (only_at v) xs ∙ h v)

pub prime_big : 1 < prime
prime_big = omega arith

-- Summing one after another.
pub sum_nil : (acc : List Monomial) → insert_all [] acc ≡ acc
unfolding insert_all
sum_nil acc = refl

pub sum_cons : (m : Monomial) (ms acc : List Monomial) → insert_all (m ∷ ms) acc ≡ insert_all ms (insert_monomial prime m acc)
unfolding insert_all
sum_cons m ms acc = refl

pub sum_append : (ms ns acc : List Monomial) → insert_all (ms ++ ns) acc ≡ insert_all ns (insert_all ms acc)
unfolding insert_all
sum_append [] ns acc = refl
sum_append (m ∷ ms) ns acc = sum_append ms ns (insert_monomial prime m acc)

val_sum : (w : List ℕ → ℕ) (ms acc : List Monomial) → val prime w (insert_all ms acc) ≡ add_m prime (val prime w ms) (val prime w acc)
val_sum w [] = λ acc. unfold val in (rw sum_nil (sym (zero_add_m prime prime_big (val prime w acc) (val_lt prime prime_big w acc))))
val_sum w (m ∷ t) = let ih = val_sum w t in λ acc. rw sum_cons (ih (insert_monomial prime m acc) ∙ simp (val_insert prime prime_big w, val_cons, sums))

canon_sum : (ms acc : List Monomial) → All (Small prime) ms → Canon prime acc → Canon prime (insert_all ms acc)
unfolding insert_all
canon_sum [] acc k c = c
canon_sum (m ∷ ms) acc k c = canon_sum ms (insert_monomial prime m acc) k.1 (canon_insert prime prime_big m acc k.0 c)

val_nil : (w : List ℕ → ℕ) → val prime w [] ≡ 0
unfolding val
val_nil w = refl

-- From the first to the last, or from the last to the first.
pub sum_combine : (ms : List Monomial) → All (Small prime) ms → insert_all ms [] ≡ combine prime ms
sum_combine ms k =
    sym (combine_is prime prime_big ms (insert_all ms []) k (canon_sum ms [] k (record { asc = tt; nz = tt; small = tt }))
    (λ v. sym (val_sum (only_at v) ms [] ∙ rw val_nil (add_m_zero prime prime_big (val prime (only_at v) ms) (val_lt prime prime_big (only_at v) ms)))))

-- The property that an accepted walk's monomials have.
pub fits_plus : (m x : Monomial) → Fits m → Fits x → Fits (plus prime m x)
unfolding plus
fits_plus m x h k = record { few = k.few; sorted = k.sorted; small = add_m_lt prime prime_big m.coef x.coef }

pub asc_sum : (ms acc : List Monomial) → Asc acc → Asc (insert_all ms acc)
unfolding insert_all
asc_sum [] acc k = k
asc_sum (m ∷ ms) acc k = asc_sum ms (insert_monomial prime m acc) (asc_insert prime m acc k)

pub fits_negative : (m : Monomial) → Fits m → Fits (neg_monomial prime m)
unfolding neg_monomial
fits_negative m h = record { few = h.few; sorted = h.sorted; small = neg_m_lt prime prime_big m.coef }

-- A leaf's list has one monomial.
pub fits_constant : (k : ℕ) → k < prime → Fits (constant k)
fits_constant k h = record { few = omega arith; sorted = tt; small = h }

pub fits_single : (v : ℕ) → Fits (single v)
fits_single v = record { few = omega arith; sorted = (tt, tt); small = prime_big }

above_asym : (x y : ℕ) → above x y ≡ true → above y x ≡ false
unfolding above
above_asym x y h = le-ltb x y (omega (arith, ltb-true y x h))

above_chain : (x y z : ℕ) → above x y ≡ true → above y z ≡ true → above x z ≡ true
unfolding above
above_chain x y z h k = lt-ltb z x (omega (arith, ltb-true y x h, ltb-true z y k))

above_total : (x y : ℕ) → above x y ≡ false → above y x ≡ false → x ≡ y
unfolding above
above_total x y h k = omega (arith, ltb-false y x h, ltb-false x y k)

pub sorted_above : (xs : List ℕ) → Sorted above (sort above xs)
sorted_above = sorted_sort above above_asym above_chain above_total

pub sort_length : (xs : List ℕ) → length (sort above xs) ≡ length xs
sort_length = sort_same above length (λ x s t e. ap suc e) (λ x y t. refl)

pub fits_product : (m n : Monomial) → length m.vars + length n.vars ≤ 14 → Fits (mul_monomial prime m n)
unfolding mul_monomial
fits_product m n h = record {
  few = omega (arith, sort_length (m.vars ++ n.vars), length-append m.vars n.vars);
  sorted = sorted_above (m.vars ++ n.vars);
  small = mul_m_lt prime prime_big m.coef n.coef;
}

pub small_of_fits : (xs : List Monomial) → All Fits xs → All (Small prime) xs
small_of_fits [] k = tt
small_of_fits (x ∷ xs) k = (k.0.small, small_of_fits xs k.1)
