-- Laws of lists that the kit does not have.
use mathlib.Core.Path.{◌≡◌, refl, ◌∙◌, ap, subst}
use mathlib.Core.List.{List, [], ◌∷◌, ◌++◌, map}
use Prim.Native.Nat.{ℕ, zero, suc, ◌+◌, ◌≤◌, ◌<◌}
use native.Mathlib.Omega.{arith}
use native.Mathlib.Nat.{zero-add}
use lib.ListN.{length, get_or, drop}
use lib.Seq.{drop-cons}
use Rattle.semantics.specs.Lists.{All}
use Rattle.semantics.specs.Sheet.{Each}

-- What all elements have: those of a part, and the one at a place.
module _ {X : Type 0} (P : X → Type 0) where
  pub all_front : (xs ys : List X) → All P (xs ++ ys) → All P xs
  all_front [] ys h = tt
  all_front (x ∷ xs) ys h = (h.0, all_front xs ys h.1)

  pub all_back : (xs ys : List X) → All P (xs ++ ys) → All P ys
  all_back [] ys h = h
  all_back (x ∷ xs) ys h = all_back xs ys h.1

  pub all_drop : (n : ℕ) (xs : List X) → All P xs → All P (drop n xs)
  all_drop zero xs h = h
  all_drop (suc n) [] h = tt
  all_drop (suc n) (x ∷ xs) h = all_drop n xs h.1

  pub all_at : (xs : List X) (i : ℕ) (d : X) → All P xs → P d → P (get_or xs i d)
  all_at [] i d h k = k
  all_at (x ∷ xs) zero d h k = h.0
  all_at (x ∷ xs) (suc i) d h k = all_at xs i d h.1 k

-- What each element has, the element at a place has.
pub each_at : {X : Type 0} (P : ℕ → X → Type 0) (n : ℕ) (xs : List X) (i : ℕ) (d : X) → Each P n xs → i < length xs → P (n + i) (get_or xs i d)
each_at P n [] i d h k = absurd (omega arith)
each_at P n (x ∷ xs) zero d h k = subst (λ (m : ℕ). P m x) (omega arith) h.0
each_at P n (x ∷ xs) (suc i) d h k = subst (λ (m : ℕ). P m (get_or xs i d)) (omega arith) (each_at P (suc n) xs i d h.1 (omega arith))

pub each_zero : {X : Type 0} (P : ℕ → X → Type 0) (xs : List X) (i : ℕ) (d : X) → Each P 0 xs → i < length xs → P i (get_or xs i d)
each_zero P xs i d h k = rw zero-add at (each_at P 0 xs i d h k)

pub each_snoc : {X : Type 0} (P : ℕ → X → Type 0) (n : ℕ) (xs : List X) (x : X) → Each P n xs → P (n + length xs) x → Each P n (xs ++ (x ∷ []))
each_snoc P n [] x h k = (subst (λ (m : ℕ). P m x) (omega arith) k, tt)
each_snoc P n (y ∷ xs) x h k = (h.0, each_snoc P (suc n) xs x h.1 (subst (λ (m : ℕ). P m x) (omega arith) k))

pub get_or_map : {X Y : Type 0} (f : X → Y) (xs : List X) (i : ℕ) (d : X) (e : Y) → i < length xs → get_or (map f xs) i e ≡ f (get_or xs i d)
get_or_map f [] i d e h = absurd (omega arith)
get_or_map f (x ∷ xs) zero d e h = refl
get_or_map f (x ∷ xs) (suc i) d e h = get_or_map f xs i d e (omega arith)

-- A list from place j on, the first n of it one by one.
abbrev pub one_by_one : (n j : ℕ) → List ℕ → List ℕ
one_by_one zero j ws = drop j ws
one_by_one (suc n) j ws = get_or ws j 0 ∷ one_by_one n (suc j) ws

pub one_by_one_lem : (n j : ℕ) (ws : List ℕ) → n + j ≤ length ws → drop j ws ≡ one_by_one n j ws
one_by_one_lem zero j ws h = refl
one_by_one_lem (suc n) j ws h = drop-cons ws j 0 (omega arith) ∙ ap (λ (l : List ℕ). get_or ws j 0 ∷ l) (one_by_one_lem n (suc j) ws (omega arith))
