-- The order of a walk is closed, has each record once, and has exactly the reached records.
use mathlib.Core.Path.{◌≡◌, refl, sym, ◌∙◌, ap, subst}
use mathlib.Core.Logic.{◌⊎◌, inl, inr}
use mathlib.Core.Bool.{Bool, true, false, cond, true≢false}
use mathlib.Core.List.{List, [], ◌∷◌}
use Prim.Native.Nat.{ℕ, zero, suc, ◌≤◌, ◌<◌}
use native.Mathlib.Omega.{arith}
use Rattle.semantics.specs.Walk.{Closed, Mem, member, fold_left, visit, Reaches, itself, through, Distinct}
use Rattle.semantics.proofs.Basics.{by_test}
use Rattle.semantics.proofs.Members.{mem_here, mem_there, mem_cases}

-- A property that each step keeps, the fold keeps.
pub fold_keeps : {S : Type 0} (P : S → Type 0) (f : S → ℕ → S) (cs : List ℕ) → ((s : S) (c : ℕ) → Mem c cs → P s → P (f s c)) → (s : S) → P s → P (fold_left f s cs)
unfolding fold_left
fold_keeps P f [] k s h = h
fold_keeps P f (c ∷ cs) k s h = fold_keeps P f cs (λ u x m. k u x (mem_there x c cs m)) (f s c) (k s c (mem_here c cs) h)

pub fold_same : {S : Type 0} (f g : S → ℕ → S) (cs : List ℕ) → ((s : S) (c : ℕ) → Mem c cs → f s c ≡ g s c) → (s : S) → fold_left f s cs ≡ fold_left g s cs
unfolding fold_left
fold_same f g [] k s = refl
fold_same f g (c ∷ cs) k s =
    fold_same f g cs (λ u x m. k u x (mem_there x c cs m)) (f s c) ∙ ap (λ u. fold_left g u cs) (k s c (mem_here c cs))

-- What holds of a visit, by whether the record was seen.
pub by_seen : (P : List ℕ → Type 0) (ch : ℕ → List ℕ) (n : ℕ) (s : List ℕ) (r : ℕ)
    → (Mem r s → P s) → (member r s ≡ false → P (r ∷ fold_left (visit ch n) s (ch r))) → P (visit ch (suc n) s r)
unfolding visit
by_seen P ch n s r f g = by_test P (member r s) f g

module _ (ch : ℕ → List ℕ) where
  pub visit_old : (n : ℕ) (s : List ℕ) (r x : ℕ) → Mem x s → Mem x (visit ch n s r)
  visit_old zero s r x h = unfold visit in h
  visit_old (suc n) s r x h =
      by_seen (Mem x) ch n s r (λ e. h)
      (λ e. mem_there x r (fold_left (visit ch n) s (ch r)) (fold_keeps (Mem x) (visit ch n) (ch r) (λ u c m. visit_old n u c x) s h))

  pub visit_has : (n : ℕ) (s : List ℕ) (r : ℕ) → r < n → Mem r (visit ch n s r)
  visit_has zero s r h = absurd (omega arith)
  visit_has (suc n) s r h = by_seen (Mem r) ch n s r (λ e. e) (λ e. mem_here r (fold_left (visit ch n) s (ch r)))

  -- Each child of a list is there after the fold.
  pub fold_has : (n : ℕ) (cs s : List ℕ) → ((c : ℕ) → Mem c cs → c < n) → (c : ℕ) → Mem c cs → Mem c (fold_left (visit ch n) s cs)
  unfolding fold_left
  fold_has n [] s b c h = unfold member in (absurd (true≢false (sym h)))
  fold_has n (d ∷ cs) s b c h = go (mem_cases c d cs h) (fold_has n cs (visit ch n s d) (λ x m. b x (mem_there x d cs m)) c)
    where
      go : (c ≡ d) ⊎ Mem c cs → (Mem c cs → Mem c (fold_left (visit ch n) (visit ch n s d) cs)) → Mem c (fold_left (visit ch n) (visit ch n s d) cs)
      go (inl e) ih =
          fold_keeps (Mem c) (visit ch n) cs (λ u x m. visit_old n u x c) (visit ch n s d)
          (subst (λ (k : ℕ). Mem k (visit ch n s d)) (sym e) (visit_has n s d (b d (mem_here d cs))))
      go (inr m) ih = ih m

module _ (ch : ℕ → List ℕ) (low : (r c : ℕ) → Mem c (ch r) → c < r) where
  pub visit_closed : (n : ℕ) (s : List ℕ) (r : ℕ) → r < n → Closed ch s → Closed ch (visit ch n s r)
  visit_closed zero s r h k = absurd (omega arith)
  visit_closed (suc n) s r h k =
      by_seen (Closed ch) ch n s r (λ e. k)
      (λ e. (
        fold_has ch n (ch r) s (λ c m. omega (arith, low r c m)),
        fold_keeps (Closed ch) (visit ch n) (ch r) (λ u c m. visit_closed n u c (omega (arith, low r c m))) s k,
      ))

  pub visit_fuel : (n m : ℕ) (s : List ℕ) (r : ℕ) → r < n → r < m → visit ch n s r ≡ visit ch m s r
  unfolding visit
  visit_fuel zero m s r h k = absurd (omega arith)
  visit_fuel (suc n) zero s r h k = absurd (omega arith)
  visit_fuel (suc n) (suc m) s r h k =
      ap (λ (u : List ℕ). cond (member r s) s (r ∷ u))
      (fold_same (visit ch n) (visit ch m) (ch r) (λ u c q. visit_fuel n m u c (omega (arith, low r c q)) (omega (arith, low r c q))) s)

module _ (ch : ℕ → List ℕ) where
  -- Only what is reached is new.
  pub fold_reach : (n : ℕ) (cs s : List ℕ) (x : ℕ) → ((u : List ℕ) (c : ℕ) → Mem c cs → Mem x (visit ch n u c) → Mem x u ⊎ Reaches ch c x)
      → Mem x (fold_left (visit ch n) s cs) → Mem x s ⊎ ((c : ℕ) × Mem c cs × Reaches ch c x)
  unfolding fold_left
  fold_reach n [] s x k h = inl h
  fold_reach n (d ∷ cs) s x k h = go (fold_reach n cs (visit ch n s d) x (λ u c m. k u c (mem_there c d cs m)) h)
    where
      back : Mem x s ⊎ Reaches ch d x → Mem x s ⊎ ((c : ℕ) × Mem c (d ∷ cs) × Reaches ch c x)
      back (inl a) = inl a
      back (inr a) = inr (d, mem_here d cs, a)

      go : Mem x (visit ch n s d) ⊎ ((c : ℕ) × Mem c cs × Reaches ch c x) → Mem x s ⊎ ((c : ℕ) × Mem c (d ∷ cs) × Reaches ch c x)
      go (inl a) = back (k s d (mem_here d cs) a)
      go (inr a) = inr (a.0, mem_there a.0 d cs a.1, a.2)

  pub visit_reach : (n : ℕ) (s : List ℕ) (r x : ℕ) → Mem x (visit ch n s r) → Mem x s ⊎ Reaches ch r x
  visit_reach zero s r x = unfold visit in (λ h. inl h)
  visit_reach (suc n) s r x =
      by_seen (λ (l : List ℕ). Mem x l → Mem x s ⊎ Reaches ch r x) ch n s r (λ e h. inl h)
      (λ e h. go (mem_cases x r (fold_left (visit ch n) s (ch r)) h) (fold_reach n (ch r) s x (λ u c m. visit_reach n u c x)))
    where
      deep : Mem x s ⊎ ((c : ℕ) × Mem c (ch r) × Reaches ch c x) → Mem x s ⊎ Reaches ch r x
      deep (inl a) = inl a
      deep (inr a) = inr (through a.1 a.2)

      go : (x ≡ r) ⊎ Mem x (fold_left (visit ch n) s (ch r)) → (Mem x (fold_left (visit ch n) s (ch r)) → Mem x s ⊎ ((c : ℕ) × Mem c (ch r) × Reaches ch c x))
          → Mem x s ⊎ Reaches ch r x
      go (inl a) f = inr (subst (λ (k : ℕ). Reaches ch r k) (sym a) itself)
      go (inr a) f = deep (f a)

  -- What is closed and has a record has all that it reaches.
  closed_child : (s : List ℕ) → Closed ch s → (r c : ℕ) → Mem r s → Mem c (ch r) → Mem c s
  closed_child [] k r c h m = unfold member in (absurd (true≢false (sym h)))
  closed_child (y ∷ s) k r c h m = go (mem_cases r y s h) (λ g. closed_child s k.1 r c g m)
    where
      go : (r ≡ y) ⊎ Mem r s → (Mem r s → Mem c s) → Mem c (y ∷ s)
      go (inl e) ih = mem_there c y s (k.0 c (subst (λ (z : ℕ). Mem c (ch z)) e m))
      go (inr g) ih = mem_there c y s (ih g)

  pub closed_reach : (s : List ℕ) → Closed ch s → (r x : ℕ) → Mem r s → Reaches ch r x → Mem x s
  closed_reach s k r x h itself = h
  closed_reach s k r x h (through {c = c} m q) = closed_reach s k c x (closed_child s k r c h m) q

module _ (ch : ℕ → List ℕ) (low : (r c : ℕ) → Mem c (ch r) → c < r) where
  pub reach_le : (r x : ℕ) → Reaches ch r x → x ≤ r
  reach_le r x itself = omega arith
  reach_le r x (through {c = c} m q) = omega (arith, reach_le c x q, low r c m)

module _ (ch : ℕ → List ℕ) (low : (r c : ℕ) → Mem c (ch r) → c < r) where
  not_again : (n : ℕ) (s : List ℕ) (r : ℕ) → member r s ≡ false → member r (fold_left (visit ch n) s (ch r)) ≡ false
  not_again n s r e = go (member r (fold_left (visit ch n) s (ch r))) refl
    where
      no_way : Mem r s ⊎ ((c : ℕ) × Mem c (ch r) × Reaches ch c r) → ⊥
      no_way (inl a) = true≢false (sym a ∙ e)
      no_way (inr a) = omega (arith, reach_le ch low a.0 r a.2, low r a.0 a.1)

      go : (t : Bool) → member r (fold_left (visit ch n) s (ch r)) ≡ t → member r (fold_left (visit ch n) s (ch r)) ≡ false
      go false q = q
      go true q = absurd (no_way (fold_reach ch n (ch r) s r (λ u c m. visit_reach ch n u c r) q))

  pub visit_distinct : (n : ℕ) (s : List ℕ) (r : ℕ) → Distinct s → Distinct (visit ch n s r)
  visit_distinct zero s r k = unfold visit in k
  visit_distinct (suc n) s r k =
      by_seen Distinct ch n s r (λ e. k)
      (λ e. (not_again n s r e, fold_keeps Distinct (visit ch n) (ch r) (λ u c m. visit_distinct n u c) s k))
