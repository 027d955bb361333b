-- The search for a monomial in a list that ascends.
use mathlib.Core.Path.{◌≡◌, refl, sym, ap, subst, ◌∙◌}
use mathlib.Core.Logic.{⊎_elim}
use mathlib.Core.Bool.{true}
use mathlib.Core.List.{List, [], ◌∷◌}
use Prim.Native.Nat.{ℕ, zero, suc, ◌+◌, ◌*◌, ◌≤◌, ◌<◌, min}
use native.Mathlib.Nat.{eq-or-lt_of_le}
use native.Mathlib.Omega.{arith}
use lib.ListN.{length, get_or, take, drop}
use lib.Seq.{take_all, get_or-take, get_or-drop, drop-drop}
use Rattle.std.specs.declared.cmp.Ordering.{Ordering}
use Rattle.std.specs.declared.cmp.Ordering.TheVariants.{Less, Equal, Greater}
use Rattle.slices.proofs.Lists.{take_min}
use Rattle.semantics.specs.Monomial.{Asc, Monomial, before_vars}
use Rattle.semantics.proofs.Combining.{Above}
use Rattle.semantics.proofs.Order.{before_vars_trans}
use Rattle.monomial.specs.Words.{read_monomial, held}
use Rattle.monomial.specs.Orders.{order_of}
use Rattle.monomial.specs.Places.{one, vars_at, FirstBefore, RestAfter}
use Rattle.monomial.proofs.Rows.{held_at}
use Rattle.monomial.proofs.Orderings.{from_less, from_greater, from_equal}

above_at : (v : List ℕ) (ms : List Monomial) → Above v ms → (j : ℕ) → j < length ms → before_vars v (vars_at ms j) ≡ true
above_at v [] a j h = absurd (omega arith)
above_at v (x ∷ xs) a zero h = a.0
above_at v (x ∷ xs) a (suc j) h = above_at v xs a.1 j (omega arith)

pub ascending : (ms : List Monomial) → Asc ms → (i j : ℕ) → i < j → j < length ms → before_vars (vars_at ms i) (vars_at ms j) ≡ true
ascending [] a i j h k = absurd (omega arith)
ascending (x ∷ xs) a zero zero h k = absurd (omega arith)
ascending (x ∷ xs) a zero (suc j) h k = above_at x.vars xs a.0 j (omega arith)
ascending (x ∷ xs) a (suc i) zero h k = absurd (omega arith)
ascending (x ∷ xs) a (suc i) (suc j) h k = ascending xs a.1 i j (omega arith) (omega arith)

-- The half of the list that a comparison rules out.
module _ (x : Monomial) (ms : List Monomial) (a : Asc ms) (k : ℕ) (l : k < length ms) where
  pub lower_half : before_vars (vars_at ms k) x.vars ≡ true → FirstBefore x ms (k + 1)
  lower_half h i m =
      let n : i ≤ k = omega arith in
      ⊎_elim (λ (e : i ≡ k). subst (λ (j : ℕ). before_vars (vars_at ms j) x.vars ≡ true) (sym e) h)
      (λ (o : i < k). before_vars_trans (vars_at ms i) (vars_at ms k) x.vars (ascending ms a i k o l) h) (eq-or-lt_of_le n)

  pub upper_half : before_vars x.vars (vars_at ms k) ≡ true → RestAfter x ms k
  upper_half h i m n =
      ⊎_elim (λ (e : k ≡ i). subst (λ (j : ℕ). before_vars x.vars (vars_at ms j) ≡ true) e h)
      (λ (o : k < i). before_vars_trans x.vars (vars_at ms k) (vars_at ms i) h (ascending ms a k i o n)) (eq-or-lt_of_le m)

-- The variables of slot k.
drop_two : (n : ℕ) (l : List ℕ) → drop 2 (take (2 + n) l) ≡ take n (drop 2 l)
drop_two n l = let m : 2 + n ≡ suc (suc n) = omega arith in ap (λ (k : ℕ). drop 2 (take k l)) m ∙ go l
  where
    go : (l : List ℕ) → drop 2 (take (suc (suc n)) l) ≡ take n (drop 2 l)
    go [] = sym (take_all n [] (omega arith))
    go (x ∷ []) = sym (take_all n [] (omega arith))
    go (x ∷ y ∷ t) = refl

pub slot_vars : (ws : List ℕ) (k n : ℕ) → k < n → vars_at (held n ws) k ≡ take (min (get_or ws (16 * k) 0) 14) (drop (16 * k + 2) ws)
unfolding held read_monomial
slot_vars ws k n h =
    let row : List ℕ = take 16 (drop (16 * k) ws) in
    let z : 16 * k + 0 ≡ 16 * k = omega arith in
    let c : get_or row 0 0 ≡ get_or ws (16 * k) 0 = get_or-take 16 (drop (16 * k) ws) 0 0 (omega arith) ∙ get_or-drop (16 * k) ws 0 0 ∙ ap (λ (i : ℕ). get_or ws i 0) z in
    let d : drop 2 row ≡ take 14 (drop (16 * k + 2) ws) = drop_two 14 (drop (16 * k) ws) ∙ ap (take 14) (drop-drop 2 (16 * k) ws) in
    ap (λ (m : Monomial). m.vars) (held_at n k ws one h) ∙ (λ t. take (c t) (d t)) ∙ take_min (get_or ws (16 * k) 0) 14 (drop (16 * k + 2) ws)

pub coef_at : (ws : List ℕ) (k n : ℕ) → k < n → (get_or (held n ws) k one).coef ≡ get_or ws (16 * k + 1) 0
unfolding held read_monomial
coef_at ws k n h =
    ap (λ (m : Monomial). m.coef) (held_at n k ws one h)
    ∙ get_or-take 16 (drop (16 * k) ws) 1 0 (omega arith) ∙ get_or-drop (16 * k) ws 1 0

-- A monomial with the variables that are looked for.
abbrev pub sought : (numbers : List ℕ) → Monomial
sought numbers = record { vars = numbers; coef = 0 }

-- What a comparison with the variables of monomial k says.
module _ (x : Monomial) (ms : List Monomial) (k : ℕ) (h : k < length ms) (o : Ordering) (v : List ℕ) (e : v ≡ vars_at ms k) (q : o ≡ order_of x.vars v) where
  pub found_equal : o ≡ Equal → vars_at ms k ≡ x.vars
  found_equal s = sym e ∙ sym (from_equal x.vars v (sym q ∙ s))

  pub found_greater : Asc ms → o ≡ Greater → FirstBefore x ms (k + 1)
  found_greater a s = lower_half x ms a k h (ap (λ (u : List ℕ). before_vars u x.vars) (sym e) ∙ from_greater x.vars v (sym q ∙ s))

  pub found_less : Asc ms → o ≡ Less → RestAfter x ms k
  found_less a s = upper_half x ms a k h (ap (before_vars x.vars) (sym e) ∙ from_less x.vars v (sym q ∙ s))
