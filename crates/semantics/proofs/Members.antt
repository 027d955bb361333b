-- Numbers in a list, and lists of numbers below a bound.
use mathlib.Core.Path.{◌≡◌, refl, sym, ap, subst}
use mathlib.Core.Logic.{◌⊎◌, inl, inr}
use mathlib.Core.Bool.{Bool, true, true≢false}
use mathlib.Core.List.{List, [], ◌∷◌, ◌++◌, map, flat_map}
use Prim.Native.Nat.{ℕ, zero, suc, ◌<◌}
use native.Mathlib.Omega.{arith}
use lib.Dec.{eqb}
use lib.ListN.{length, get_or}
use borrow.Author.Tests.{eqb-true, eq-eqb}
use Rattle.semantics.specs.Sheet.{Each}
use Rattle.semantics.specs.Walk.{Mem, Below, member}
use Rattle.semantics.proofs.Basics.{by_test}

pub mem_here : (x : ℕ) (s : List ℕ) → Mem x (x ∷ s)
unfolding member
mem_here x s = rw (eq-eqb x x refl)

pub mem_there : (x y : ℕ) (s : List ℕ) → Mem x s → Mem x (y ∷ s)
unfolding member
mem_there x y s h = by_test (λ (t : Bool). t ≡ true) (eqb x y) (λ e. refl) (λ e. h)

pub mem_cases : (x y : ℕ) (s : List ℕ) → Mem x (y ∷ s) → (x ≡ y) ⊎ Mem x s
unfolding member
mem_cases x y s = by_test (λ (t : Bool). t ≡ true → (x ≡ y) ⊎ Mem x s) (eqb x y) (λ e h. inl (eqb-true x y e)) (λ e h. inr h)

pub not_in : {X : Type 0} (c : ℕ) → Mem c [] → X
not_in c m = unfold member in (absurd (true≢false (sym m)))

pub mem_left : (x : ℕ) (s t : List ℕ) → Mem x s → Mem x (s ++ t)
mem_left x [] t m = not_in x m
mem_left x (y ∷ s) t m = go (mem_cases x y s m) (mem_left x s t)
  where
    go : (x ≡ y) ⊎ Mem x s → (Mem x s → Mem x (s ++ t)) → Mem x (y ∷ (s ++ t))
    go (inl e) ih = subst (λ (z : ℕ). Mem z (y ∷ (s ++ t))) (sym e) (mem_here y (s ++ t))
    go (inr k) ih = mem_there x y (s ++ t) (ih k)

pub mem_right : (x : ℕ) (s t : List ℕ) → Mem x t → Mem x (s ++ t)
mem_right x [] t m = m
mem_right x (y ∷ s) t m = mem_there x y (s ++ t) (mem_right x s t m)

pub mem_either : (x : ℕ) (s t : List ℕ) → Mem x (s ++ t) → Mem x s ⊎ Mem x t
mem_either x [] t m = inr m
mem_either x (y ∷ s) t m = go (mem_cases x y (s ++ t) m) (mem_either x s t)
  where
    more : Mem x s ⊎ Mem x t → Mem x (y ∷ s) ⊎ Mem x t
    more (inl k) = inl (mem_there x y s k)
    more (inr k) = inr k

    go : (x ≡ y) ⊎ Mem x (s ++ t) → (Mem x (s ++ t) → Mem x s ⊎ Mem x t) → Mem x (y ∷ s) ⊎ Mem x t
    go (inl e) ih = inl (subst (λ (z : ℕ). Mem z (y ∷ s)) (sym e) (mem_here y s))
    go (inr k) ih = more (ih k)

pub mem_get_or : (l : List ℕ) (j : ℕ) → j < length l → Mem (get_or l j 0) l
mem_get_or [] j h = absurd (omega arith)
mem_get_or (x ∷ l) zero h = mem_here x l
mem_get_or (x ∷ l) (suc j) h = mem_there (get_or l j 0) x l (mem_get_or l j (omega arith))

pub cons_below : (b n : ℕ) (xs : List ℕ) → n < b → Below b xs → Below b (n ∷ xs)
cons_below b n xs h w y m = go (mem_cases y n xs m)
  where
    go : (y ≡ n) ⊎ Mem y xs → y < b
    go (inl e) = omega arith
    go (inr k) = w y k

pub append_below : (b : ℕ) (xs ys : List ℕ) → Below b xs → Below b ys → Below b (xs ++ ys)
append_below b xs ys v w x m = go (mem_either x xs ys m)
  where
    go : Mem x xs ⊎ Mem x ys → x < b
    go (inl e) = v x e
    go (inr e) = w x e

-- What stands in one of the parts of a list.
pub flat_mem : {X : Type 0} (f : X → List ℕ) (xs : List X) (d : X) (i c : ℕ) → i < length xs → Mem c (f (get_or xs i d)) → Mem c (flat_map f xs)
unfolding flat_map
flat_mem f [] d i c h m = absurd (omega arith)
flat_mem f (x ∷ xs) d zero c h m = mem_left c (f x) (flat_map f xs) m
flat_mem f (x ∷ xs) d (suc i) c h m = mem_right c (f x) (flat_map f xs) (flat_mem f xs d i c (omega arith) m)

pub flat_below : {X : Type 0} (b : ℕ) (f : X → List ℕ) (P : ℕ → X → Type 0) → ((n : ℕ) (x : X) → P n x → Below b (f x))
    → (n : ℕ) (xs : List X) → Each P n xs → Below b (flat_map f xs)
unfolding flat_map
flat_below b f P h n [] w = λ y k. not_in y k
flat_below b f P h n (x ∷ xs) w = append_below b (f x) (flat_map f xs) (h n x w.0) (flat_below b f P h (suc n) xs w.1)

-- A member stands at a place.
pub place_of : (x : ℕ) (xs : List ℕ) → Mem x xs → (q : ℕ) × (q < length xs) × (get_or xs q 0 ≡ x)
place_of x [] m = not_in x m
place_of x (y ∷ xs) m = go (mem_cases x y xs m) (place_of x xs)
  where
    go : (x ≡ y) ⊎ Mem x xs → (Mem x xs → (q : ℕ) × (q < length xs) × (get_or xs q 0 ≡ x)) → (q : ℕ) × (q < suc (length xs)) × (get_or (y ∷ xs) q 0 ≡ x)
    go (inl e) ih = (0, omega arith, sym e)
    go (inr k) ih = let a = ih k in (suc a.0, omega (arith, a.1), a.2)

-- What a function makes of numbers.
pub mem_map : (f : ℕ → ℕ) (x : ℕ) (xs : List ℕ) → Mem x xs → Mem (f x) (map f xs)
mem_map f x [] m = not_in x m
mem_map f x (y ∷ xs) m = go (mem_cases x y xs m) (mem_map f x xs)
  where
    go : (x ≡ y) ⊎ Mem x xs → (Mem x xs → Mem (f x) (map f xs)) → Mem (f x) (f y ∷ map f xs)
    go (inl e) ih = subst (λ (z : ℕ). Mem (f x) (z ∷ map f xs)) (ap f e) (mem_here (f x) (map f xs))
    go (inr k) ih = mem_there (f x) (f y) (map f xs) (ih k)

pub map_below : (b : ℕ) (f : ℕ → ℕ) (xs : List ℕ) → ((x : ℕ) → Mem x xs → f x < b) → Below b (map f xs)
map_below b f [] h y m = not_in y m
map_below b f (x ∷ xs) h y m = go (mem_cases y (f x) (map f xs) m) (map_below b f xs (λ z k. h z (mem_there z x xs k)) y)
  where
    go : (y ≡ f x) ⊎ Mem y (map f xs) → (Mem y (map f xs) → y < b) → y < b
    go (inl e) ih = omega (arith, h x (mem_here x xs))
    go (inr k) ih = ih k
