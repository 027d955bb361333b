-- Rows of a width: one of them, the first of them, a word or a row written, a row put in or taken out.
use mathlib.Core.Path.{◌≡◌, refl, sym, ap, ◌∙◌}
use mathlib.Core.List.{List, [], ◌∷◌, ◌++◌, append_assoc, append-nil}
use Prim.Native.Nat.{ℕ, zero, suc, ◌+◌, ◌*◌, ◌-◌, ◌≤◌, ◌<◌}
use native.Mathlib.Omega.{arith}
use lib.ListN.{length, get_or, take, drop, set, length-drop}
use lib.Seq.{take_at, drop_at, take-add, drop-drop, get_or-take, get_or-drop, length-take-le, take-set-lt, take-set-le, drop-set-lt, drop-set-add}
use Rattle.slices.specs.Rows.{rows}

module _ (w : ℕ) where
  pub rows_length : (n : ℕ) (ws : List ℕ) → length (rows w n ws) ≡ n
  unfolding rows
  rows_length zero ws = refl
  rows_length (suc n) ws = ap suc (rows_length n (drop w ws))

  -- Row k, and a word of it.
  pub rows_at : (n k : ℕ) (ws : List ℕ) → k < n → get_or (rows w n ws) k [] ≡ take w (drop (w * k) ws)
  unfolding rows
  rows_at zero k ws h = absurd (omega arith)
  rows_at (suc n) zero ws h = let z : 0 ≡ w * 0 = omega arith in ap (λ (i : ℕ). take w (drop i ws)) z
  rows_at (suc n) (suc k) ws h =
      let e : w + w * k ≡ w * suc k = omega arith in
      rows_at n k (drop w ws) (omega arith) ∙ ap (take w) (drop-drop (w * k) w ws ∙ ap (λ (i : ℕ). drop i ws) e)

  pub word_at : (n k j : ℕ) (ws : List ℕ) → k < n → j < w → get_or (get_or (rows w n ws) k []) j 0 ≡ get_or ws (w * k + j) 0
  word_at n k j ws h l = ap (λ (r : List ℕ). get_or r j 0) (rows_at n k ws h) ∙ get_or-take w (drop (w * k) ws) j 0 l ∙ get_or-drop (w * k) ws j 0

  -- The first k rows, and those behind them.
  pub rows_split : (k n : ℕ) (ws : List ℕ) → rows w (k + n) ws ≡ rows w k ws ++ rows w n (drop (w * k) ws)
  unfolding rows
  rows_split zero n ws =
      let z : 0 + n ≡ n = omega arith in
      let y : 0 ≡ w * 0 = omega arith in
      λ t. rows w (z t) (drop (y t) ws)
  rows_split (suc k) n ws =
      let m : suc k + n ≡ suc (k + n) = omega arith in
      let e : w + w * k ≡ w * suc k = omega arith in
      ap (λ (i : ℕ). rows w i ws) m ∙ ap (λ (r : List (List ℕ)). take w ws ∷ r) (rows_split k n (drop w ws))
      ∙ ap (λ (r : List ℕ). take w ws ∷ (rows w k (drop w ws) ++ rows w n r)) (drop-drop (w * k) w ws ∙ ap (λ (i : ℕ). drop i ws) e)

  take_rows : (n k j : ℕ) (ws : List ℕ) → n ≡ k + j → take k (rows w n ws) ≡ rows w k ws
  take_rows n k j ws e =
      ap (λ (i : ℕ). take k (rows w i ws)) e ∙ ap (take k) (rows_split k j ws) ∙ take_at (rows w k ws) (rows w j (drop (w * k) ws)) k (rows_length k ws)

  drop_rows : (n k j : ℕ) (ws : List ℕ) → n ≡ k + j → drop k (rows w n ws) ≡ rows w j (drop (w * k) ws)
  drop_rows n k j ws e =
      ap (λ (i : ℕ). drop k (rows w i ws)) e ∙ ap (drop k) (rows_split k j ws) ∙ drop_at (rows w k ws) (rows w j (drop (w * k) ws)) k (rows_length k ws)

  -- A row in front, and rows in front that stay.
  pub rows_cons : (n : ℕ) (row vs : List ℕ) → length row ≡ w → rows w (suc n) (row ++ vs) ≡ row ∷ rows w n vs
  unfolding rows
  rows_cons n row vs e = λ t. take_at row vs w e t ∷ rows w n (drop_at row vs w e t)

  pub rows_after : (k n : ℕ) (ws vs : List ℕ) → w * k ≤ length ws → rows w (k + n) (take (w * k) ws ++ vs) ≡ rows w k ws ++ rows w n vs
  unfolding rows
  rows_after zero n ws vs h =
      let z : 0 + n ≡ n = omega arith in
      let y : w * 0 ≡ 0 = omega arith in
      λ t. rows w (z t) (take (y t) ws ++ vs)
  rows_after (suc k) n ws vs h =
      let m : suc k + n ≡ suc (k + n) = omega arith in
      let e : w * suc k ≡ w + w * k = omega arith in
      let s : take (w * suc k) ws ++ vs ≡ take w ws ++ (take (w * k) (drop w ws) ++ vs) =
      ap (λ (i : ℕ). take i ws ++ vs) e ∙ ap (λ (r : List ℕ). r ++ vs) (take-add w (w * k) ws) ∙ append_assoc (take w ws) (take (w * k) (drop w ws)) vs in
      (λ t. rows w (m t) (s t)) ∙ rows_cons (k + n) (take w ws) (take (w * k) (drop w ws) ++ vs) (length-take-le w ws (omega arith))
      ∙ ap (λ (r : List (List ℕ)). take w ws ∷ r) (rows_after k n (drop w ws) vs (omega (arith, length-drop w ws)))

  pub rows_front : (n : ℕ) (ws vs : List ℕ) → w * n ≤ length ws → rows w n (take (w * n) ws ++ vs) ≡ rows w n ws
  unfolding rows
  rows_front n ws vs h =
      let z : n ≡ n + 0 = omega arith in
      ap (λ (k : ℕ). rows w k (take (w * n) ws ++ vs)) z ∙ rows_after n 0 ws vs h ∙ append-nil (rows w n ws)

  -- One word of row k changed.
  pub rows_set : (n k j x : ℕ) (ws : List ℕ) → k < n → j < w → rows w n (set ws (w * k + j) x) ≡ set (rows w n ws) k (set (get_or (rows w n ws) k []) j x)
  unfolding rows
  rows_set zero k j x ws h l = absurd (omega arith)
  rows_set (suc n) zero j x ws h l =
      let e : w * 0 + j ≡ j = omega arith in
      ap (λ (i : ℕ). take w (set ws i x) ∷ rows w n (drop w (set ws i x))) e
      ∙ (λ t. take-set-lt w ws j x l t ∷ rows w n (drop-set-lt w ws j x l t))
  rows_set (suc n) (suc k) j x ws h l =
      let e : w * suc k + j ≡ w + (w * k + j) = omega arith in
      ap (λ (i : ℕ). take w (set ws i x) ∷ rows w n (drop w (set ws i x))) e
      ∙ (λ t. take-set-le w ws (w + (w * k + j)) x (omega arith) t ∷ rows w n (drop-set-add w ws (w * k + j) x t))
      ∙ ap (λ (r : List (List ℕ)). take w ws ∷ r) (rows_set n k j x (drop w ws) (omega arith) l)

  -- A row put in before row k.
  pub rows_insert : (n k : ℕ) (ws row vs : List ℕ) → k ≤ n → w * n ≤ length ws → length row ≡ w
      → rows w (n + 1) (take (w * k) ws ++ (row ++ (take (w * n - w * k) (drop (w * k) ws) ++ vs))) ≡ take k (rows w n ws) ++ (row ∷ drop k (rows w n ws))
  rows_insert n k ws row vs h l e = go (n - k) (omega arith)
    where
      go : (j : ℕ) → n ≡ k + j
          → rows w (n + 1) (take (w * k) ws ++ (row ++ (take (w * n - w * k) (drop (w * k) ws) ++ vs))) ≡ take k (rows w n ws) ++ (row ∷ drop k (rows w n ws))
      go j q =
          let D : List ℕ = drop (w * k) ws in
          let a : w * n ≡ w * k + w * j = ap (λ (i : ℕ). w * i) q ∙ omega arith in
          let b : w * n - w * k ≡ w * j = omega arith in
          let i : n + 1 ≡ k + suc j = omega arith in
          (λ t. rows w (i t) (take (w * k) ws ++ (row ++ (take (b t) D ++ vs))))
          ∙ rows_after k (suc j) ws (row ++ (take (w * j) D ++ vs)) (omega arith)
          ∙ ap (λ (r : List (List ℕ)). rows w k ws ++ r) (rows_cons j row (take (w * j) D ++ vs) e)
          ∙ ap (λ (r : List (List ℕ)). rows w k ws ++ (row ∷ r)) (rows_front j D vs (omega (arith, length-drop (w * k) ws)))
          ∙ (λ t. sym (take_rows n k j ws q) t ++ (row ∷ sym (drop_rows n k j ws q) t))

  -- Row k taken out.
  pub rows_remove : (n k : ℕ) (ws vs : List ℕ) → k < n → w * n ≤ length ws
      → rows w (n - 1) (take (w * k) ws ++ (take (w * n - (w * k + w)) (drop (w * k + w) ws) ++ vs)) ≡ take k (rows w n ws) ++ drop (k + 1) (rows w n ws)
  rows_remove n k ws vs h l = go (n - (k + 1)) (omega arith)
    where
      go : (j : ℕ) → n ≡ k + 1 + j
          → rows w (n - 1) (take (w * k) ws ++ (take (w * n - (w * k + w)) (drop (w * k + w) ws) ++ vs)) ≡ take k (rows w n ws) ++ drop (k + 1) (rows w n ws)
      go j q =
          let D : List ℕ = drop (w * (k + 1)) ws in
          let a : w * n ≡ w * (k + 1) + w * j = ap (λ (i : ℕ). w * i) q ∙ omega arith in
          let b : w * n - (w * k + w) ≡ w * j = omega arith in
          let c : w * k + w ≡ w * (k + 1) = omega arith in
          let i : n - 1 ≡ k + j = omega arith in
          (λ t. rows w (i t) (take (w * k) ws ++ (take (b t) (drop (c t) ws) ++ vs)))
          ∙ rows_after k j ws (take (w * j) D ++ vs) (omega arith)
          ∙ ap (λ (r : List (List ℕ)). rows w k ws ++ r) (rows_front j D vs (omega (arith, length-drop (w * (k + 1)) ws)))
          ∙ (λ t. sym (take_rows n k (1 + j) ws (omega arith)) t ++ sym (drop_rows n (k + 1) j ws q) t)
