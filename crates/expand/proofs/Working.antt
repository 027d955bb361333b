-- The working lists of Neg, Add, Sub and Mul: their faults, and what is held of them.
use mathlib.Core.Path.{◌≡◌, refl, sym, ap, subst, ◌∙◌}
use mathlib.Core.Bool.{Bool, true, false, ◌||◌}
use mathlib.Core.List.{List, [], ◌∷◌, ◌++◌, map}
use Prim.Native.Nat.{ℕ, ◌+◌, ◌*◌, ◌≤◌, ◌<◌, max}
use native.Mathlib.Omega.{arith}
use lib.Dec.{ltb}
use lib.ListN.{length, length-append, length-map}
use borrow.Author.Tests.{lt-ltb, le-ltb, ltb-true, ltb-false}
use Rattle.semantics.specs.Arithmetic.{prime}
use Rattle.semantics.specs.Monomial.{Asc, Monomial, neg_monomial, mul_monomial, products, combine}
use Rattle.semantics.specs.Expand.{longer, work_fault}
use Rattle.semantics.specs.Lists.{All}
use Rattle.semantics.proofs.Sorting.{all_append, all_map}
use Rattle.std.specs.Prelude.{Ok, Err}
use Rattle.answers.specs.declared.Reason.TheVariants.{ListTooLong, ProductTooLong}
use Rattle.monomial.specs.declared.Sign.{Sign}
use Rattle.monomial.specs.declared.Sign.TheVariants.{Plus, Minus}
use Rattle.monomial.specs.Signs.{signed}
use Rattle.monomial.specs.Words.{longest_of, insert_all, Fits, FitsList}
use Rattle.expand.specs.Making.{Makes, MakesCombined}
use Rattle.monomial.proofs.Canons.{sum_append, sum_combine, asc_sum, fits_negative, sort_length, small_of_fits}
use Rattle.monomial.proofs.Sizes.{longest_cons, longest_nil, longest_few}
use Rattle.monomial.proofs.Summing.{sum_length, signed_length}
use Rattle.monomial.proofs.Products.{products_nil, products_cons, products_length, fits_row_lem}

-- ---- faults

fits_short : (ms : List Monomial) → All Fits ms → longer 14 ms ≡ false
unfolding longer
fits_short [] k = refl
fits_short (m ∷ ms) k = rw (le-ltb 14 (length m.vars) k.0.few, fits_short ms k.1)

work_fine : (ms : List Monomial) → length ms ≤ 256 → All Fits ms → work_fault ms ≡ 0
unfolding work_fault
work_fine ms l k = rw (le-ltb 256 (length ms) l, fits_short ms k)

work_many : (ms : List Monomial) → 256 < length ms → work_fault ms ≡ 12
unfolding work_fault
work_many ms l = rw (lt-ltb 256 (length ms) l)

work_long : (ms : List Monomial) → length ms ≤ 256 → longer 14 ms ≡ true → work_fault ms ≡ 13
unfolding work_fault
work_long ms l k = rw (le-ltb 256 (length ms) l, k)

-- A list that was summed from nothing.
summed_made : (ms : List Monomial) → length ms ≤ 256 → All Fits ms → {l : List Monomial} → l ≡ insert_all ms [] → Makes (Ok l) (work_fault ms) (combine prime ms)
summed_made ms l k h = (work_fine ms l k, h ∙ sum_combine ms (small_of_fits ms k))

-- ---- Neg

pub neg_fine : (ms : List Monomial) → FitsList ms → work_fault (map (neg_monomial prime) ms) ≡ 0
neg_fine ms k =
    work_fine (map (neg_monomial prime) ms) (omega (arith, length-map ms (neg_monomial prime), k.few)) (all_map Fits Fits (neg_monomial prime) fits_negative ms k.fit)

-- ---- Add and Sub

fits_signed : (s : Sign) (ms : List Monomial) → All Fits ms → All Fits (signed s ms)
fits_signed Plus ms k = k
fits_signed Minus ms k = all_map Fits Fits (neg_monomial prime) fits_negative ms k

module _ (s : Sign) (l r : List Monomial) (fl : All Fits l) (fr : All Fits r) where
  both_length : length (l ++ signed s r) ≡ length l + length r
  both_length = omega (arith, length-append l (signed s r), signed_length s r)

  pub sum_many : 256 < length l + length r → MakesCombined (Err ListTooLong) (l ++ signed s r)
  sum_many h = work_many (l ++ signed s r) (omega (arith, both_length))

  module _ (few : length l + length r ≤ 256) (none one : List Monomial) (z : none ≡ []) (h : one ≡ insert_all l none) where
    pub sum_second : (length one + length r ≤ 256) × Asc one
    sum_second = (omega (arith, ap length h, sum_length l none, ap length z), rw (h, z) (asc_sum l [] tt))

    pub sum_made : (two : List Monomial) → two ≡ insert_all (signed s r) one → MakesCombined (Ok two) (l ++ signed s r)
    sum_made two k =
        summed_made (l ++ signed s r) (omega (arith, both_length)) (all_append Fits l (signed s r) fl (fits_signed s r fr))
        (k ∙ ap (insert_all (signed s r)) (h ∙ ap (insert_all l) z) ∙ sym (sum_append l (signed s r) []))

-- ---- Mul

longest_append : (xs ys : List Monomial) → longest_of (xs ++ ys) ≡ max (longest_of xs) (longest_of ys)
longest_append [] ys = omega (arith, longest_nil)
longest_append (x ∷ xs) ys = omega (arith, longest_cons x (xs ++ ys), longest_cons x xs, longest_append xs ys)

longest_longer : (k : ℕ) (ms : List Monomial) → longer k ms ≡ ltb k (longest_of ms)
unfolding longer
longest_longer k [] = sym (ap (ltb k) longest_nil ∙ le-ltb k 0 (omega arith))
longest_longer k (m ∷ ms) = ap (λ (t : Bool). ltb k (length m.vars) || t) (longest_longer k ms) ∙ go (ltb k (length m.vars)) (ltb k (longest_of ms)) refl refl
  where
    all : longest_of (m ∷ ms) ≡ max (length m.vars) (longest_of ms)
    all = longest_cons m ms

    go : (s t : Bool) → ltb k (length m.vars) ≡ s → ltb k (longest_of ms) ≡ t → s || t ≡ ltb k (longest_of (m ∷ ms))
    go true t e f = sym (lt-ltb k (longest_of (m ∷ ms)) (omega (arith, ltb-true k (length m.vars) e, all)))
    go false true e f = sym (lt-ltb k (longest_of (m ∷ ms)) (omega (arith, ltb-true k (longest_of ms) f, all)))
    go false false e f = sym (le-ltb k (longest_of (m ∷ ms)) (omega (arith, ltb-false k (length m.vars) e, ltb-false k (longest_of ms) f, all)))

mul_length : (x y : Monomial) → length (mul_monomial prime x y).vars ≡ length x.vars + length y.vars
unfolding mul_monomial
mul_length x y = sort_length (x.vars ++ y.vars) ∙ length-append x.vars y.vars

row_longest : (x y : Monomial) (ys : List Monomial) → length x.vars + longest_of (y ∷ ys) ≤ longest_of (map (mul_monomial prime x) (y ∷ ys))
row_longest x y [] = omega (arith, longest_cons y [], longest_cons (mul_monomial prime x y) [], longest_nil, mul_length x y)
row_longest x y (z ∷ ys) =
    omega (arith, longest_cons y (z ∷ ys), longest_cons (mul_monomial prime x y) (map (mul_monomial prime x) (z ∷ ys)), mul_length x y, row_longest x z ys)

products_fit : (xs ys : List Monomial) → longest_of xs + longest_of ys ≤ 14 → All Fits (products prime xs ys)
products_fit [] ys h = subst (All Fits) (sym (products_nil prime ys)) tt
products_fit (x ∷ xs) ys h =
    let e = longest_cons x xs in
    subst (All Fits) (sym (products_cons prime x xs ys))
    (all_append Fits (map (mul_monomial prime x) ys) (products prime xs ys) (fits_row_lem x ys (omega arith)) (products_fit xs ys (omega arith)))

-- The longest product is as long as the two longest monomials.
products_longest : (x : Monomial) (xs : List Monomial) (y : Monomial) (ys : List Monomial)
    → longest_of (x ∷ xs) + longest_of (y ∷ ys) ≤ longest_of (products prime (x ∷ xs) (y ∷ ys))
products_longest x [] y ys =
    let e = ap longest_of (products_cons prime x [] (y ∷ ys)) ∙ longest_append (map (mul_monomial prime x) (y ∷ ys)) (products prime [] (y ∷ ys)) in
    omega (arith, row_longest x y ys, longest_cons x [], longest_nil)
products_longest x (z ∷ zs) y ys =
    let e = ap longest_of (products_cons prime x (z ∷ zs) (y ∷ ys)) ∙ longest_append (map (mul_monomial prime x) (y ∷ ys)) (products prime (z ∷ zs) (y ∷ ys)) in
    omega (arith, row_longest x y ys, longest_cons x (z ∷ zs), products_longest z zs y ys)

-- Where the two longest are too long together, neither list is empty.
products_long : (xs ys : List Monomial) → All Fits xs → All Fits ys → 14 < longest_of xs + longest_of ys → longer 14 (products prime xs ys) ≡ true
products_long [] ys k q h = absurd (omega (arith, longest_nil, longest_few ys q))
products_long (x ∷ xs) [] k q h = absurd (omega (arith, longest_nil, longest_few (x ∷ xs) k))
products_long (x ∷ xs) (y ∷ ys) k q h =
    longest_longer 14 (products prime (x ∷ xs) (y ∷ ys))
    ∙ lt-ltb 14 (longest_of (products prime (x ∷ xs) (y ∷ ys))) (omega (arith, products_longest x xs y ys))

module _ (l r : List Monomial) (fl : All Fits l) (fr : All Fits r) where
  pub product_many : 256 < length l * length r → MakesCombined (Err ListTooLong) (products prime l r)
  product_many h = work_many (products prime l r) (omega (arith, products_length l r))

  pub product_long : length l * length r ≤ 256 → 14 < longest_of l + longest_of r → MakesCombined (Err ProductTooLong) (products prime l r)
  product_long few h = work_long (products prime l r) (omega (arith, products_length l r)) (products_long l r fl fr h)

  pub product_made : length l * length r ≤ 256 → longest_of l + longest_of r ≤ 14 → {none made : List Monomial} → none ≡ [] → made ≡ insert_all (products prime l r) none
      → MakesCombined (Ok made) (products prime l r)
  product_made few h z k =
      summed_made (products prime l r) (omega (arith, products_length l r)) (products_fit l r h) (k ∙ ap (insert_all (products prime l r)) z)
