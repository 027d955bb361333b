-- What sorting keeps, and that it sorts.
use mathlib.Core.Path.{◌≡◌, refl, ◌∙◌, ap, subst}
use mathlib.Core.Bool.{Bool, true, false}
use mathlib.Core.List.{List, [], ◌∷◌, ◌++◌, map}
use Prim.Native.Nat.{ℕ, zero, suc, ◌<◌}
use native.Mathlib.Omega.{arith}
use lib.ListN.{length, get_or}
use Rattle.semantics.specs.Lists.{All, Ahead, Sorted}
use Rattle.semantics.specs.Monomial.{insert_sorted, sort}
use Rattle.semantics.proofs.Basics.{by_test, not_both}

pub all_append : {X : Type 0} (P : X → Type 0) (xs ys : List X) → All P xs → All P ys → All P (xs ++ ys)
all_append P [] ys h k = k
all_append P (x ∷ xs) ys h k = (h.0, all_append P xs ys h.1 k)

-- What every element has, and what stands past the end, the element at any place has.
pub all_at : {X : Type 0} (P : X → Type 0) (xs : List X) (i : ℕ) (d : X) → P d → All P xs → P (get_or xs i d)
all_at P [] i d h k = h
all_at P (x ∷ xs) zero d h k = k.0
all_at P (x ∷ xs) (suc i) d h k = all_at P xs i d h k.1

pub all_within : {X : Type 0} (P : X → Type 0) (xs : List X) (i : ℕ) (d : X) → All P xs → i < length xs → P (get_or xs i d)
all_within P [] i d k h = absurd (omega arith)
all_within P (x ∷ xs) zero d k h = k.0
all_within P (x ∷ xs) (suc i) d k h = all_within P xs i d k.1 (omega arith)

pub all_imply : {X : Type 0} (P Q : X → Type 0) → ((x : X) → P x → Q x) → (xs : List X) → All P xs → All Q xs
all_imply P Q h [] k = tt
all_imply P Q h (x ∷ xs) k = (h x k.0, all_imply P Q h xs k.1)

-- What a map gives each that has something, all of the mapped list have.
pub all_map : {X Y : Type 0} (P : X → Type 0) (Q : Y → Type 0) (f : X → Y) → ((x : X) → P x → Q (f x)) → (xs : List X) → All P xs → All Q (map f xs)
all_map P Q f h [] k = tt
all_map P Q f h (x ∷ xs) k = (h x k.0, all_map P Q f h xs k.1)

module _ {X : Type 0} (after : X → X → Bool) where
  -- Where an element goes: behind the first, or in front.
  pub insert_by : (P : List X → Type 0) (x y : X) (ys : List X) → (after x y ≡ true → P (y ∷ insert_sorted after x ys))
      → (after x y ≡ false → P (x ∷ y ∷ ys)) → P (insert_sorted after x (y ∷ ys))
  unfolding insert_sorted
  insert_by P x y ys f g = by_test P (after x y) f g

  pub insert_nil : (x : X) → insert_sorted after x [] ≡ x ∷ []
  unfolding insert_sorted
  insert_nil x = refl

  pub sort_nil : sort after [] ≡ []
  unfolding sort
  sort_nil = refl

  pub sort_cons : (x : X) (xs : List X) → sort after (x ∷ xs) ≡ insert_sorted after x (sort after xs)
  unfolding sort
  sort_cons x xs = refl

  -- What every element has, every element has after sorting.
  insert_all_lem : (P : X → Type 0) (x : X) (ys : List X) → P x → All P ys → All P (insert_sorted after x ys)
  insert_all_lem P x [] h = λ k. rw insert_nil (h, tt)
  insert_all_lem P x (y ∷ t) h = let ih = insert_all_lem P x t h in λ k. insert_by (All P) x y t (λ e. (k.0, ih k.1)) (λ e. (h, k))

  pub sort_all : (P : X → Type 0) (xs : List X) → All P xs → All P (sort after xs)
  sort_all P [] k = rw sort_nil tt
  sort_all P (x ∷ xs) k = rw sort_cons (insert_all_lem P x (sort after xs) k.0 (sort_all P xs k.1))

  -- What follows from the rest, whatever the order of the first two, does not change by sorting.
  module _ {Y : Type 0} (F : List X → Y) (rest : (x : X) (s t : List X) → F s ≡ F t → F (x ∷ s) ≡ F (x ∷ t))
      (swap : (x y : X) (t : List X) → F (x ∷ y ∷ t) ≡ F (y ∷ x ∷ t)) where
    insert_same : (x : X) (ys : List X) → F (insert_sorted after x ys) ≡ F (x ∷ ys)
    insert_same x [] = ap F (insert_nil x)
    insert_same x (y ∷ t) =
        let ih = insert_same x t in
        insert_by (λ (l : List X). F l ≡ F (x ∷ y ∷ t)) x y t (λ e. rest y (insert_sorted after x t) (x ∷ t) ih ∙ swap y x t) (λ e. refl)

    pub sort_same : (xs : List X) → F (sort after xs) ≡ F xs
    sort_same [] = ap F sort_nil
    sort_same (x ∷ t) = let ih = sort_same t in ap F (sort_cons x t) ∙ insert_same x (sort after t) ∙ rest x (sort after t) t ih

  module _ (asym : (x y : X) → after x y ≡ true → after y x ≡ false)
      (trans : (x y z : X) → after x y ≡ true → after y z ≡ true → after x z ≡ true)
      (total : (x y : X) → after x y ≡ false → after y x ≡ false → x ≡ y) where
    not_after_trans : (x y z : X) → after x y ≡ false → after y z ≡ false → after x z ≡ false
    not_after_trans x y z h k = go (after x z) (after z y) refl refl
      where
        go : (s t : Bool) → after x z ≡ s → after z y ≡ t → after x z ≡ false
        go false t e f = e
        go true true e f = not_both (trans x z y e f) h
        go true false e f = not_both e (subst (λ (q : X). after x q ≡ false) (total y z k f) h)

    ahead_trans : (x y : X) (s : List X) → after x y ≡ false → Ahead after y s → Ahead after x s
    ahead_trans x y [] h k = tt
    ahead_trans x y (z ∷ s) h k = (not_after_trans x y z h k.0, ahead_trans x y s h k.1)

    sorted_insert : (x : X) (s : List X) → Sorted after s → Sorted after (insert_sorted after x s)
    sorted_insert x [] = λ k. rw insert_nil (tt, tt)
    sorted_insert x (y ∷ t) =
        let ih = sorted_insert x t in
        λ k. insert_by (Sorted after) x y t
        (λ e. (insert_all_lem (λ (z : X). after y z ≡ false) x t (asym x y e) k.0, ih k.1))
        (λ e. ((e, ahead_trans x y t e k.0), k))

    pub sorted_sort : (xs : List X) → Sorted after (sort after xs)
    sorted_sort [] = rw sort_nil tt
    sorted_sort (x ∷ xs) = rw sort_cons (sorted_insert x (sort after xs) (sorted_sort xs))
