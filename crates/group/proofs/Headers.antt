-- Rows of four words in the headers: one word changed, one row put in; and the tallies that they are.
use mathlib.Core.Path.{◌≡◌, sym, ◌∙◌, ap, subst}
use mathlib.Core.List.{List, [], ◌∷◌}
use Prim.Native.Nat.{ℕ, zero, suc, ◌+◌, ◌*◌, ◌≤◌, ◌<◌}
use native.Mathlib.Omega.{arith}
use lib.ListN.{length, get_or, take, drop, length-map}
use Rattle.slices.proofs.Rows.{rows_length, word_at}
use Rattle.slices.specs.Rows.{rows}
use Rattle.semantics.proofs.Lists.{get_or_map}
use Rattle.semantics.proofs.Sorting.{all_within}
use Rattle.group.specs.Grouped.{Tally, tallied_total, none, tally_row, tallied, RowInside, Rows}

-- The tallies of rows.
pub tallied_length : (n : ℕ) (H P : List ℕ) → length (tallied n H P) ≡ n
unfolding tallied
tallied_length n H P = length-map (rows 4 n H) (tally_row P) ∙ rows_length 4 n H

pub tallied_at : (n k : ℕ) (H P : List ℕ) → k < n → get_or (tallied n H P) k none ≡ tally_row P (get_or (rows 4 n H) k [])
unfolding tallied
tallied_at n k H P h = get_or_map (tally_row P) (rows 4 n H) k [] none (subst (λ (m : ℕ). k < m) (sym (rows_length 4 n H)) h)

pub vars_at_lem : (n k : ℕ) (H P : List ℕ) → k < n → (get_or (tallied n H P) k none).vars ≡ take (get_or H (4 * k + 2) 0) (drop (get_or H (4 * k) 0 + 2) P)
unfolding tally_row
vars_at_lem n k H P h =
    let e : 4 * k + 0 ≡ 4 * k = omega arith in
    ap (λ (g : Tally). g.vars) (tallied_at n k H P h)
    ∙ ap (λ (i : ℕ). take i (drop (get_or (get_or (rows 4 n H) k []) 0 0 + 2) P)) (word_at 4 n k 2 H h (omega arith))
    ∙ ap (λ (i : ℕ). take (get_or H (4 * k + 2) 0) (drop (i + 2) P)) (word_at 4 n k 0 H h (omega arith) ∙ ap (λ (i : ℕ). get_or H i 0) e)

pub count_at : (n k : ℕ) (H P : List ℕ) → k < n → (get_or (tallied n H P) k none).count ≡ get_or H (4 * k + 3) 0
unfolding tally_row
count_at n k H P h = ap (λ (g : Tally). g.count) (tallied_at n k H P h) ∙ word_at 4 n k 3 H h (omega arith)

pub inside_at : (n k : ℕ) (H P : List ℕ) → Rows n H P → k < n
    → (get_or H (4 * k) 0 + 2 + get_or H (4 * k + 2) 0 ≤ length P) × (get_or H (4 * k + 2) 0 ≤ 14)
inside_at n k H P r h =
    let a = all_within (RowInside P) (rows 4 n H) k [] r.inside (subst (λ (m : ℕ). k < m) (sym (rows_length 4 n H)) h) in
    let e : 4 * k + 0 ≡ 4 * k = omega arith in
    let x : get_or (get_or (rows 4 n H) k []) 0 0 ≡ get_or H (4 * k) 0 = word_at 4 n k 0 H h (omega arith) ∙ ap (λ (i : ℕ). get_or H i 0) e in
    let y : get_or (get_or (rows 4 n H) k []) 2 0 ≡ get_or H (4 * k + 2) 0 = word_at 4 n k 2 H h (omega arith) in
    (omega arith, omega arith)

pub total_at : (gs : List Tally) (k : ℕ) → k < length gs → (get_or gs k none).count ≤ tallied_total gs
unfolding tallied_total
total_at [] k h = absurd (omega arith)
total_at (g ∷ gs) zero h = omega arith
total_at (g ∷ gs) (suc k) h = omega (arith, total_at gs k (omega arith))
