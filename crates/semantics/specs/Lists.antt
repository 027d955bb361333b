-- Properties of lists that statements and contracts name.
use Rattle.std.specs.Prelude.{◌≡◌, Bool, false, List, [], ◌∷◌}

-- A property of every element.
abbrev pub All : {X : Type 0} → (X → Type 0) → List X → Type 0
All P [] = Unit {0}
All P (x ∷ xs) = P x × All P xs

-- The elements' keys strictly ascend: each stands before those of all elements behind it.
module _ {X K : Type 0} (Before : K → K → Type 0) (key : X → K) where
  abbrev pub AscendBy : List X → Type 0
  AscendBy [] = Unit {0}
  AscendBy (x ∷ xs) = All (λ (y : X). Before (key x) (key y)) xs × AscendBy xs

-- Sorted: no element is after one that stands behind it.
module _ {X : Type 0} (after : X → X → Bool) where
  abbrev pub Ahead : X → List X → Type 0
  Ahead x ys = All (λ (y : X). after x y ≡ false) ys

  abbrev pub Sorted : List X → Type 0
  Sorted [] = Unit {0}
  Sorted (x ∷ xs) = Ahead x xs × Sorted xs
