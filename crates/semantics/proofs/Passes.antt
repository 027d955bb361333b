-- A pass over records: what it makes of each, and that one more record changes nothing before it.
use mathlib.Core.Path.{◌≡◌, refl, sym, ◌∙◌, ap}
use mathlib.Core.List.{List, [], ◌∷◌, ◌++◌}
use Prim.Native.Nat.{ℕ, zero, suc, ◌+◌, ◌<◌}
use native.Mathlib.Omega.{arith}
use lib.ListN.{length, get_or, length-append, get_or-append}
use lib.Seq.{get_or_at}
use Rattle.semantics.specs.Sheet.{Each}
use Rattle.semantics.specs.Value.{fill}
use Rattle.semantics.specs.Lists.{All}
use Rattle.semantics.proofs.Sorting.{all_append, all_at}

module _ {R X : Type 0} (step : R → (ℕ → X) → X) (d : X) where
  pub fill_length : (done : List X) (rs : List R) → length (fill step d done rs) ≡ length done + length rs
  unfolding fill
  fill_length done [] = omega arith
  fill_length done (r ∷ rs) = fill_length (done ++ (step r (λ i. get_or done i d) ∷ [])) rs ∙ simp length-append (omega arith)

  pub fill_old : (done : List X) (rs : List R) (i : ℕ) → i < length done → get_or (fill step d done rs) i d ≡ get_or done i d
  unfolding fill
  fill_old done [] i h = refl
  fill_old done (r ∷ rs) i h =
      fill_old (done ++ (step r (λ i. get_or done i d) ∷ [])) rs i (simp length-append (omega arith))
      ∙ get_or-append done (step r (λ i. get_or done i d) ∷ []) d i h

  pub fill_snoc : (done : List X) (rs : List R) (r : R)
      → fill step d done (rs ++ (r ∷ [])) ≡ fill step d done rs ++ (step r (λ i. get_or (fill step d done rs) i d) ∷ [])
  unfolding fill
  fill_snoc done [] r = refl
  fill_snoc done (x ∷ rs) r = fill_snoc (done ++ (step x (λ i. get_or done i d) ∷ [])) rs r

-- The equation of each, for records whose steps look at earlier places only: `Low n r` says so of the record `r` at place `n`.
module _ {R X : Type 0} (step : R → (ℕ → X) → X) (d : X) (Low : ℕ → R → Type 0)
    (low : (n : ℕ) (r : R) → Low n r → (f g : ℕ → X) → ((i : ℕ) → i < n → f i ≡ g i) → step r f ≡ step r g) where
  pub fill_at : (n : ℕ) (done : List X) (rs : List R) (z : R) (i : ℕ) → length done ≡ n → Each Low n rs → i < length rs
      → get_or (fill step d done rs) (n + i) d ≡ step (get_or rs i z) (λ j. get_or (fill step d done rs) j d)
  unfolding fill
  fill_at n done [] z i e w h = absurd (omega arith)
  fill_at n done (r ∷ rs) z zero e w h =
      let x : X = step r (λ i. get_or done i d) in
      fill_old step d (done ++ (x ∷ [])) rs (n + 0) (simp length-append (omega arith))
      ∙ get_or_at done x [] d (n + 0) (omega arith)
      ∙ low n r w.0 (λ j. get_or done j d) (λ j. get_or (fill step d done (r ∷ rs)) j d) (λ j k. sym (fill_old step d done (r ∷ rs) j (omega arith)))
  fill_at n done (r ∷ rs) z (suc i) e w h =
      let done' : List X = done ++ (step r (λ i. get_or done i d) ∷ []) in
      ap (λ (k : ℕ). get_or (fill step d done' rs) k d) (omega arith)
      ∙ fill_at (suc n) done' rs z i (simp length-append (omega arith)) w.1 (omega arith)

-- What each step keeps, all that the pass makes has; `Q` is what the records have.
module _ {R X : Type 0} (step : R → (ℕ → X) → X) (d : X) (Q : R → Type 0) (P : X → Type 0) (base : P d)
    (kept : (r : R) (f : ℕ → X) → Q r → ((i : ℕ) → P (f i)) → P (step r f)) where
  pub fill_all : (done : List X) (rs : List R) → All Q rs → All P done → All P (fill step d done rs)
  unfolding fill
  fill_all done [] q h = h
  fill_all done (r ∷ rs) q h =
      let x : X = step r (λ i. get_or done i d) in
      fill_all (done ++ (x ∷ [])) rs q.1 (all_append P done (x ∷ []) h (kept r (λ i. get_or done i d) q.0 (λ i. all_at P done i d base h), tt))
