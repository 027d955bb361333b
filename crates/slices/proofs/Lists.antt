-- Laws of lists that the kit does not have.
use mathlib.Core.Path.{◌≡◌, refl, sym, ap, ◌∙◌}
use mathlib.Core.List.{List, [], ◌∷◌, ◌++◌, map, flat_map, append_assoc, map-append}
use Prim.Native.Nat.{ℕ, zero, suc, ◌+◌, ◌*◌, ◌≤◌, ◌<◌, min}
use native.Mathlib.Nat.{mul-suc, mul-zero}
use native.Mathlib.Numerals.{add-one}
use native.Mathlib.Omega.{arith}
use lib.ListN.{length, get_or, take, drop, set, length-set, length-append}
use lib.Seq.{take-nil, take-suc, take-set-le, get_or-drop, get_or-set_same}

pub flat_append : {X Y : Type 0} (f : X → List Y) (us vs : List X) → flat_map f (us ++ vs) ≡ flat_map f us ++ flat_map f vs
unfolding flat_map
flat_append f [] vs = refl
flat_append {Y = Y} f (u ∷ us) vs = ap (λ (l : List Y). f u ++ l) (flat_append f us vs) ∙ sym (append_assoc (f u) (flat_map f us) (flat_map f vs))

-- Pieces of one length, and pieces of at most one length.
module _ {X Y : Type 0} (f : X → List Y) (w : ℕ) where
  pub flat_length : ((x : X) → length (f x) ≡ w) → (xs : List X) → length (flat_map f xs) ≡ w * length xs
  unfolding flat_map
  flat_length h [] = sym (mul-zero w)
  flat_length h (x ∷ xs) = length-append (f x) (flat_map f xs) ∙ omega (arith, h x, mul-suc w (length xs), flat_length h xs)

  pub flat_most : ((x : X) → length (f x) ≤ w) → (xs : List X) → length (flat_map f xs) ≤ w * length xs
  unfolding flat_map
  flat_most h [] = omega arith
  flat_most h (x ∷ xs) = omega (arith, length-append (f x) (flat_map f xs), h x, mul-suc w (length xs), flat_most h xs)

pub map_set : {X Y : Type 0} (f : X → Y) (l : List X) (i : ℕ) (x : X) → map f (set l i x) ≡ set (map f l) i (f x)
map_set f [] i x = refl
map_set f (y ∷ l) zero x = refl
map_set {Y = Y} f (y ∷ l) (suc i) x = ap (λ (t : List Y). f y ∷ t) (map_set f l i x)

pub map_take : {X Y : Type 0} (f : X → Y) (n : ℕ) (l : List X) → map f (take n l) ≡ take n (map f l)
map_take f zero l = refl
map_take f (suc n) [] = refl
map_take {Y = Y} f (suc n) (x ∷ l) = ap (λ (t : List Y). f x ∷ t) (map_take f n l)

pub map_drop : {X Y : Type 0} (f : X → Y) (n : ℕ) (l : List X) → map f (drop n l) ≡ drop n (map f l)
map_drop f zero l = refl
map_drop f (suc n) [] = refl
map_drop f (suc n) (x ∷ l) = map_drop f n l

pub map_insert : {X Y : Type 0} (f : X → Y) (l : List X) (k : ℕ) (x : X) → map f (take k l ++ (x ∷ drop k l)) ≡ take k (map f l) ++ (f x ∷ drop k (map f l))
map_insert f l k x = map-append f (take k l) (x ∷ drop k l) ∙ λ t. map_take f k l t ++ (f x ∷ map_drop f k l t)

pub take_min : (n m : ℕ) (l : List ℕ) → take n (take m l) ≡ take (min n m) l
take_min zero m l = let z : 0 ≡ min 0 m = omega arith in ap (λ (k : ℕ). take k l) z
take_min (suc n) zero l = let z : 0 ≡ min (suc n) 0 = omega arith in ap (λ (k : ℕ). take k l) z
take_min (suc n) (suc m) [] = sym (take-nil (min (suc n) (suc m)))
take_min (suc n) (suc m) (x ∷ l) =
    let z : suc (min n m) ≡ min (suc n) (suc m) = omega arith in
    ap (λ (t : List ℕ). x ∷ t) (take_min n m l) ∙ ap (λ (k : ℕ). take k (x ∷ l)) z

pub get_or_front : (l : List ℕ) (at : ℕ) → get_or (drop at l) 0 0 ≡ get_or l at 0
get_or_front l at = let z : at + 0 ≡ at = omega arith in get_or-drop at l 0 0 ∙ ap (λ (k : ℕ). get_or l k 0) z

-- Two lists that are alike as far as i: one more element is the same.
pub alike_more : (s d : List ℕ) (i : ℕ) → i < length s → i < length d → take i s ≡ take i d → get_or s i 0 ≡ get_or d i 0 → take (i + 1) s ≡ take (i + 1) d
alike_more s d i h k e q = rw add-one (take-suc s i 0 h ∙ (λ t. e t ++ (q t ∷ [])) ∙ sym (take-suc d i 0 k))

-- A list filled from another: one more element.
pub filled_more : (s d : List ℕ) (i v : ℕ) → i < length s → i < length d → take i s ≡ take i d → v ≡ get_or d i 0 → take (i + 1) (set s i v) ≡ take (i + 1) d
filled_more s d i v h k e q =
    alike_more (set s i v) d i (omega (arith, length-set s i v)) k (take-set-le i s i v (omega arith) ∙ e) (get_or-set_same s i v 0 h ∙ q)
