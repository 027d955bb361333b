-- The variables of the rows, written one row after another.
use mathlib.Core.Path.{◌≡◌, refl, sym, ◌∙◌, ap}
use mathlib.Core.List.{List, [], ◌∷◌, ◌++◌, flat_map, append_assoc, append-nil}
use Prim.Native.Nat.{ℕ, ◌+◌, ◌*◌, ◌-◌, ◌≤◌, ◌<◌}
use native.Mathlib.Numerals.{add-one}
use native.Mathlib.Omega.{arith}
use lib.ListN.{length, get_or, take, drop, length-append, length-drop, take-append-drop}
use lib.Seq.{drop-drop, take_all, take_at, take-suc, drop-append-add, length-take-le}
use Rattle.slices.proofs.Lists.{flat_append}
use Rattle.group.specs.Grouped.{Tally, tallied, none, row_place, row_size, row_vars, Rows, vars_in}
use Rattle.group.proofs.Headers.{vars_at_lem, inside_at}

pub vars_cons : (g : Tally) (gs : List Tally) → vars_in (g ∷ gs) ≡ g.vars ++ vars_in gs
unfolding vars_in flat_map
vars_cons g gs = refl

vars_append : (gs hs : List Tally) → vars_in (gs ++ hs) ≡ vars_in gs ++ vars_in hs
unfolding vars_in
vars_append = flat_append (λ (g : Tally). g.vars)

vars_nil : vars_in [] ≡ []
unfolding vars_in flat_map
vars_nil = refl

-- The first i rows are written.
abbrev pub Written : (gs : List Tally) (U₀ U : List ℕ) (at i : ℕ) → Type 0
Written gs U₀ U at i =
    (at ≡ length (vars_in (take i gs))) × (U ≡ vars_in (take i gs) ++ drop at U₀)

pub written_none : (gs : List Tally) (U : List ℕ) → Written gs U U 0 0
unfolding vars_in flat_map
written_none gs U = (refl, refl)

module _ (gs : List Tally) (U₀ U : List ℕ) (at i : ℕ) (w : Written gs U₀ U at i) (h : i < length gs) where
  vars_next : vars_in (take (i + 1) gs) ≡ vars_in (take i gs) ++ (get_or gs i none).vars
  vars_next =
      ap (λ (k : ℕ). vars_in (take k gs)) (add-one i) ∙ ap vars_in (take-suc gs i none h) ∙ vars_append (take i gs) (get_or gs i none ∷ [])
      ∙ ap (λ (l : List ℕ). vars_in (take i gs) ++ l) (vars_cons (get_or gs i none) [] ∙ ap (λ (l : List ℕ). (get_or gs i none).vars ++ l) vars_nil ∙ append-nil (get_or gs i none).vars)

  pub written_fits : length (vars_in gs) ≤ length U → at + length (get_or gs i none).vars ≤ length U
  written_fits b =
      let a = ap length vars_next ∙ length-append (vars_in (take i gs)) (get_or gs i none).vars in
      let e = ap (λ (l : List Tally). length (vars_in l)) (sym (take-append-drop (i + 1) gs)) ∙ ap length (vars_append (take (i + 1) gs) (drop (i + 1) gs))
      ∙ length-append (vars_in (take (i + 1) gs)) (vars_in (drop (i + 1) gs)) in
      omega (arith, w.0)

  pub written_more : (U' : List ℕ) (at' c : ℕ) → c ≡ length (get_or gs i none).vars → at' ≡ at + c
      → U' ≡ take at U ++ ((get_or gs i none).vars ++ drop (at + c) U) → Written gs U₀ U' at' (i + 1)
  written_more U' at' c e f q =
      let A : List ℕ = vars_in (take i gs) in
      let X : List ℕ = (get_or gs i none).vars in
      let t : take at U ≡ A = ap (take at) w.1 ∙ take_at A (drop at U₀) at (sym w.0) in
      let d : drop (at + c) U ≡ drop at' U₀ =
      ap (drop (at + c)) w.1 ∙ ap (λ (k : ℕ). drop (k + c) (A ++ drop at U₀)) w.0 ∙ drop-append-add A (drop at U₀) c
      ∙ drop-drop c at U₀ ∙ ap (λ (k : ℕ). drop k U₀) (sym f) in
      let n = ap length vars_next ∙ length-append A X in (
        omega (arith, w.0),
        q ∙ ap (λ (x : List ℕ). x ++ (X ++ drop (at + c) U)) t ∙ sym (append_assoc A X (drop (at + c) U))
            ∙ ap (λ (x : List ℕ). x ++ drop (at + c) U) (sym vars_next) ∙ ap (λ (x : List ℕ). vars_in (take (i + 1) gs) ++ x) d,
      )

pub written_all : (gs : List Tally) (U₀ U : List ℕ) (at i : ℕ) → Written gs U₀ U at i → length gs ≤ i → U ≡ vars_in gs ++ drop (length (vars_in gs)) U₀
written_all gs U₀ U at i w h =
    let e : take i gs ≡ gs = take_all i gs h in
    w.1 ∙ ap (λ (k : ℕ). vars_in (take i gs) ++ drop k U₀) w.0 ∙ ap (λ (l : List Tally). vars_in l ++ drop (length (vars_in l)) U₀) e

-- A row's variables are as many as its word says, where there is room for them.
pub room_wide : (k : ℕ) (H P : List ℕ) → row_place H k + 2 + row_size H k ≤ length P → length (row_vars H P k) ≡ row_size H k
room_wide k H P i =
    let f : length (drop (get_or H (4 * k) 0 + 2) P) ≡ length P - (get_or H (4 * k) 0 + 2) = length-drop (get_or H (4 * k) 0 + 2) P in
    length-take-le (get_or H (4 * k + 2) 0) (drop (get_or H (4 * k) 0 + 2) P) (omega (arith, i))

pub row_wide : (n k : ℕ) (H P : List ℕ) → Rows n H P → k < n → length (row_vars H P k) ≡ row_size H k
row_wide n k H P r h = room_wide k H P (inside_at n k H P r h).0

pub vars_long : (n k : ℕ) (H P : List ℕ) → Rows n H P → k < n → get_or H (4 * k + 2) 0 ≡ length (get_or (tallied n H P) k none).vars
vars_long n k H P r h = sym (ap length (vars_at_lem n k H P h) ∙ row_wide n k H P r h)
