-- Totals over rows: the sum of a column, and running totals written into the rows.
use mathlib.Core.Path.{◌≡◌, refl, sym, ◌∙◌, ap, subst}
use mathlib.Core.List.{List, [], ◌∷◌, ◌++◌, map, append_assoc, append-nil}
use Prim.Native.Nat.{ℕ, ◌+◌, ◌*◌, ◌≤◌, ◌<◌}
use native.Mathlib.Numerals.{add-one}
use native.Mathlib.Omega.{arith}
use lib.ListN.{length, get_or, take, drop, set, length-set, drop_of_length-le}
use lib.Seq.{drop-cons, take-suc-set, drop-set-lt, take_all}
use Rattle.slices.proofs.Rows.{rows_length, word_at, rows_set}
use Rattle.slices.specs.Rows.{rows}
use Rattle.group.specs.Grouped.{column, sum, totalled}

abbrev pub words : ℕ → List (List ℕ) → List ℕ
words j rs = map (λ (row : List ℕ). get_or row j 0) rs

pub column_words : (j n : ℕ) (H : List ℕ) → column j n H ≡ words j (rows 4 n H)
unfolding column
column_words j n H = refl

sum_cons : (x : ℕ) (xs : List ℕ) → sum (x ∷ xs) ≡ x + sum xs
unfolding sum
sum_cons x xs = refl

-- The rows from row i on.
rows_from : (n i : ℕ) (H : List ℕ) → i < n → drop i (rows 4 n H) ≡ get_or (rows 4 n H) i [] ∷ drop (i + 1) (rows 4 n H)
rows_from n i H h =
    drop-cons (rows 4 n H) i [] (subst (λ (m : ℕ). i < m) (sym (rows_length 4 n H)) h)
    ∙ ap (λ (k : ℕ). get_or (rows 4 n H) i [] ∷ drop k (rows 4 n H)) (sym (add-one i))

rows_end : (n i : ℕ) (H : List ℕ) → n ≤ i → drop i (rows 4 n H) ≡ []
rows_end n i H h = drop_of_length-le (rows 4 n H) {i = i} (subst (λ (m : ℕ). m ≤ i) (sym (rows_length 4 n H)) h)

sum_from : (j n i : ℕ) (H : List ℕ) → i < n → j < 4 → sum (words j (drop i (rows 4 n H))) ≡ get_or H (4 * i + j) 0 + sum (words j (drop (i + 1) (rows 4 n H)))
sum_from j n i H h l =
    ap (λ (r : List (List ℕ)). sum (words j r)) (rows_from n i H h)
    ∙ sum_cons (get_or (get_or (rows 4 n H) i []) j 0) (words j (drop (i + 1) (rows 4 n H)))
    ∙ ap (λ (x : ℕ). x + sum (words j (drop (i + 1) (rows 4 n H)))) (word_at 4 n i j H h l)

-- While a column is summed.
abbrev pub Summing : (j n : ℕ) (H : List ℕ) (total i : ℕ) → Type 0
Summing j n H total i = (total ≤ i * 4294967295) × (total + sum (words j (drop i (rows 4 n H))) ≡ sum (column j n H))

pub summing_start : (j n : ℕ) (H : List ℕ) → Summing j n H 0 0
summing_start j n H = (omega arith, omega (arith, ap sum (column_words j n H)))

pub summing_step : (j n : ℕ) (H : List ℕ) (total i : ℕ) → j < 4 → i < n → get_or H (4 * i + j) 0 ≤ 4294967295
    → Summing j n H total i → Summing j n H (total + get_or H (4 * i + j) 0) (i + 1)
summing_step j n H total i l h b s =
    let f = sum_from j n i H h l in
    let t = s.1 in
    (omega (arith, s.0), omega arith)

pub summing_done : (j n : ℕ) (H : List ℕ) (total i : ℕ) → n ≤ i → Summing j n H total i → total ≡ sum (column j n H)
unfolding sum
summing_done j n H total i h s =
    let e : sum (words j (drop i (rows 4 n H))) ≡ 0 = ap (λ (r : List (List ℕ)). sum (words j r)) (rows_end n i H h) in
    omega (arith, s.1)

-- While running totals are written: what is left to write gives the whole.
pub record Running (H₀ : List ℕ) (n to from : ℕ) (H : List ℕ) (total i : ℕ) : Type 0 where
  pub long : length H ≡ length H₀
  pub rest : drop (4 * n) H ≡ drop (4 * n) H₀
  pub whole : take i (rows 4 n H) ++ totalled to from total (drop i (rows 4 n H)) ≡ totalled to from 0 (rows 4 n H₀)
  pub sums : total + sum (words from (drop i (rows 4 n H))) ≡ sum (column from n H₀)

pub running_start : (H : List ℕ) (n to from : ℕ) → Running H n to from H 0 0
running_start H n to from = record { long = refl; rest = refl; whole = refl; sums = omega (arith, ap sum (column_words from n H)) }

module _ (H₀ : List ℕ) (n to from : ℕ) (H : List ℕ) (total i : ℕ) (g : Running H₀ n to from H total i) where
  pub running_small : i < n → from < 4 → total + get_or H (4 * i + from) 0 ≤ sum (column from n H₀)
  running_small h f = let e = sum_from from n i H h f in let s = g.sums in omega arith

  pub running_step : i < n → to < from → from < 4 → 4 * n ≤ length H₀
      → Running H₀ n to from (set H (4 * i + to) total) (total + get_or H (4 * i + from) 0) (i + 1)
  unfolding totalled
  running_step h l f r =
      let R : List (List ℕ) = rows 4 n H in
      let row : List ℕ = get_or R i [] in
      let H' : List ℕ = set H (4 * i + to) total in
      let e : rows 4 n H' ≡ set R i (set row to total) = rows_set 4 n i to total H h (omega arith) in
      let w = word_at 4 n i from H h f in
      let q : i < length R = subst (λ (m : ℕ). i < m) (sym (rows_length 4 n H)) h in
      let d : drop (i + 1) (rows 4 n H') ≡ drop (i + 1) R = ap (drop (i + 1)) e ∙ drop-set-lt (i + 1) R i (set row to total) (omega arith) in
      let t : take (i + 1) (rows 4 n H') ≡ take i R ++ (set row to total ∷ []) =
      ap (take (i + 1)) e ∙ ap (λ (k : ℕ). take k (set R i (set row to total))) (add-one i) ∙ take-suc-set R i (set row to total) q in
      let z = sum_from from n i H h f in
      let s = g.sums in
      record {
        long = length-set H (4 * i + to) total ∙ g.long;
        rest = drop-set-lt (4 * n) H (4 * i + to) total (omega arith) ∙ g.rest;
        whole =
            ap (λ (x : List (List ℕ)). x ++ totalled to from (total + get_or H (4 * i + from) 0) (drop (i + 1) (rows 4 n H'))) t
            ∙ ap (λ (x : List (List ℕ)). (take i R ++ (set row to total ∷ [])) ++ totalled to from (total + get_or H (4 * i + from) 0) x) d
            ∙ append_assoc (take i R) (set row to total ∷ []) (totalled to from (total + get_or H (4 * i + from) 0) (drop (i + 1) R))
            ∙ ap (λ (x : ℕ). take i R ++ (set row to total ∷ totalled to from (total + x) (drop (i + 1) R))) (sym w)
            ∙ ap (λ (x : List (List ℕ)). take i R ++ totalled to from total x) (sym (rows_from n i H h))
            ∙ g.whole;
        sums = ap (λ (x : List (List ℕ)). total + get_or H (4 * i + from) 0 + sum (words from x)) d ∙ omega arith;
      }

  pub running_done : n ≤ i → (rows 4 n H ≡ totalled to from 0 (rows 4 n H₀)) × (drop (4 * n) H ≡ drop (4 * n) H₀)
  unfolding totalled
  running_done h =
      let R : List (List ℕ) = rows 4 n H in
      let a : take i R ≡ R = take_all i R (subst (λ (m : ℕ). m ≤ i) (sym (rows_length 4 n H)) h) in (
        sym (append-nil R) ∙ ap (λ (x : List (List ℕ)). x ++ []) (sym a)
            ∙ ap (λ (x : List (List ℕ)). take i R ++ totalled to from total x) (sym (rows_end n i H h)) ∙ g.whole,
        g.rest,
      )
