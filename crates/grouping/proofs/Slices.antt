-- The first slice that is too short, where the slices of one family come before those of another.
use mathlib.Core.Path.{◌≡◌, refl, ap, ◌∙◌}
use mathlib.Core.Bool.{Bool, true, false, cond}
use mathlib.Core.List.{List, [], ◌∷◌, ◌++◌}
use Prim.Native.Nat.{ℕ, suc, ◌+◌, ◌≤◌, ◌<◌}
use native.Mathlib.Omega.{arith}
use lib.Dec.{leb}
use lib.ListN.{length}
use Rattle.semantics.specs.Call.{first_short}
use Rattle.grouping.specs.declared.Short.{Short}
use Rattle.grouping.specs.declared.Short.TheVariants.{Headers, Variables, Terms}
use Rattle.grouping.specs.Families.{short_number}

-- A slice's number is from 1 to 3.
pub short_number_bounds : (s : Short) → (0 < short_number s) × (short_number s ≤ 3)
short_number_bounds Headers = (omega arith, omega arith)
short_number_bounds Variables = (omega arith, omega arith)
short_number_bounds Terms = (omega arith, omega arith)

pub short_number_some : (s : Short) → short_number s ≡ 0 → ⊥
short_number_some s e = let b = short_number_bounds s in omega arith

-- Counted from a later number: 0 stays, and another number grows by the difference.
module _ (d : ℕ) where
  pub later_none : (k : ℕ) (ws : List (List ℕ)) (ns : List ℕ) → first_short (suc k) ws ns ≡ 0 → first_short (d + suc k) ws ns ≡ 0
  unfolding first_short
  later_none k [] ns h = refl
  later_none k (w ∷ ws) [] h = refl
  later_none k (w ∷ ws) (n ∷ ns) h = go (leb (length w) n) (later_none (suc k) ws ns) h
    where
      go : (t : Bool) → (first_short (suc (suc k)) ws ns ≡ 0 → first_short (d + suc (suc k)) ws ns ≡ 0)
          → cond t (first_short (suc (suc k)) ws ns) (suc k) ≡ 0 → cond t (first_short (suc (d + suc k)) ws ns) (d + suc k) ≡ 0
      go true ih e = let q : suc (d + suc k) ≡ d + suc (suc k) = omega arith in ap (λ (m : ℕ). first_short m ws ns) q ∙ ih e
      go false ih e = absurd (omega arith)

  pub later_short : (k : ℕ) (ws : List (List ℕ)) (ns : List ℕ) → (first_short (suc k) ws ns ≡ 0 → ⊥)
      → first_short (d + suc k) ws ns ≡ d + first_short (suc k) ws ns
  unfolding first_short
  later_short k [] ns h = absurd (h refl)
  later_short k (w ∷ ws) [] h = absurd (h refl)
  later_short k (w ∷ ws) (n ∷ ns) h = go (leb (length w) n) (later_short (suc k) ws ns) h
    where
      go : (t : Bool) → ((first_short (suc (suc k)) ws ns ≡ 0 → ⊥) → first_short (d + suc (suc k)) ws ns ≡ d + first_short (suc (suc k)) ws ns)
          → (cond t (first_short (suc (suc k)) ws ns) (suc k) ≡ 0 → ⊥)
          → cond t (first_short (suc (d + suc k)) ws ns) (d + suc k) ≡ d + cond t (first_short (suc (suc k)) ws ns) (suc k)
      go true ih e = let q : suc (d + suc k) ≡ d + suc (suc k) = omega arith in ap (λ (m : ℕ). first_short m ws ns) q ∙ ih e
      go false ih e = refl

-- More slices behind.
pub first_none : (k : ℕ) (ws vs : List (List ℕ)) (ns ms : List ℕ) → length ws ≡ length ns → first_short (suc k) ws ns ≡ 0
    → first_short (suc k) (ws ++ vs) (ns ++ ms) ≡ first_short (suc k + length ws) vs ms
unfolding first_short
first_none k [] vs [] ms l h = let q : suc k ≡ suc k + 0 = omega arith in ap (λ (m : ℕ). first_short m vs ms) q
first_none k [] vs (n ∷ ns) ms l h = absurd (omega arith)
first_none k (w ∷ ws) vs [] ms l h = absurd (omega arith)
first_none k (w ∷ ws) vs (n ∷ ns) ms l h = go (leb (length w) n) (first_none (suc k) ws vs ns ms (omega arith)) h
  where
    go : (t : Bool)
        → (first_short (suc (suc k)) ws ns ≡ 0 → first_short (suc (suc k)) (ws ++ vs) (ns ++ ms) ≡ first_short (suc (suc k) + length ws) vs ms)
        → cond t (first_short (suc (suc k)) ws ns) (suc k) ≡ 0
        → cond t (first_short (suc (suc k)) (ws ++ vs) (ns ++ ms)) (suc k) ≡ first_short (suc k + suc (length ws)) vs ms
    go true ih e =
        let q : suc (suc k) + length ws ≡ suc k + suc (length ws) = omega arith in
        ih e ∙ ap (λ (m : ℕ). first_short m vs ms) q
    go false ih e = absurd (omega arith)

pub first_short_lem : (k : ℕ) (ws vs : List (List ℕ)) (ns ms : List ℕ) → length ws ≡ length ns → (first_short (suc k) ws ns ≡ 0 → ⊥)
    → first_short (suc k) (ws ++ vs) (ns ++ ms) ≡ first_short (suc k) ws ns
unfolding first_short
first_short_lem k [] vs ns ms l h = absurd (h refl)
first_short_lem k (w ∷ ws) vs [] ms l h = absurd (omega arith)
first_short_lem k (w ∷ ws) vs (n ∷ ns) ms l h = go (leb (length w) n) (first_short_lem (suc k) ws vs ns ms (omega arith)) h
  where
    go : (t : Bool)
        → ((first_short (suc (suc k)) ws ns ≡ 0 → ⊥) → first_short (suc (suc k)) (ws ++ vs) (ns ++ ms) ≡ first_short (suc (suc k)) ws ns)
        → (cond t (first_short (suc (suc k)) ws ns) (suc k) ≡ 0 → ⊥)
        → cond t (first_short (suc (suc k)) (ws ++ vs) (ns ++ ms)) (suc k) ≡ cond t (first_short (suc (suc k)) ws ns) (suc k)
    go true ih e = ih e
    go false ih e = refl
