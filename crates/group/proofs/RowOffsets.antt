-- Rows as headers: the totals of their numbers, and their offsets.
use mathlib.Core.Path.{◌≡◌, refl, ◌∙◌, ap}
use mathlib.Core.List.{List, [], ◌∷◌, ◌++◌}
use Prim.Native.Nat.{ℕ, zero, suc, ◌+◌, ◌*◌, ◌≤◌, ◌<◌}
use native.Mathlib.Omega.{arith}
use lib.ListN.{length, get_or, drop}
use lib.Seq.{get_or-take}
use Rattle.slices.specs.Rows.{rows}
use Rattle.header_offsets.specs.declared.MonomialHeader.{MonomialHeader}
use Rattle.header_offsets.specs.Headers.{num_vars_of, num_terms_of, column_total, with_offsets, header_in, headers_in, header_words, filled_words}
use Rattle.header_offsets.proofs.Chunks.{filled_rest}
use Rattle.group.specs.Grouped.{column, sum, totalled}

column_total_lem : (number : MonomialHeader → ℕ) (j : ℕ) → j < 4 → ((ws : List ℕ) → number (header_in ws) ≡ get_or ws j 0) → (n : ℕ) (H : List ℕ)
    → column_total number (headers_in n H) ≡ sum (column j n H)
unfolding column_total headers_in column sum rows
column_total_lem number j l e zero H = refl
column_total_lem number j l e (suc n) H = omega (arith, e H, get_or-take 4 H j 0 l, column_total_lem number j l e n (drop 4 H))

pub vars_total : (n : ℕ) (H : List ℕ) → column_total num_vars_of (headers_in n H) ≡ sum (column 2 n H)
unfolding header_in
vars_total n H = column_total_lem num_vars_of 2 (omega arith) (λ ws. refl) n H

pub terms_total : (n : ℕ) (H : List ℕ) → column_total num_terms_of (headers_in n H) ≡ sum (column 3 n H)
unfolding header_in
terms_total n H = column_total_lem num_terms_of 3 (omega arith) (λ ws. refl) n H

rows_offset : (n v t : ℕ) (H Z : List ℕ) → 4 * n ≤ length H
    → rows 4 n (header_words (with_offsets v t (headers_in n H)) ++ Z) ≡ totalled 1 3 t (totalled 0 2 v (rows 4 n H))
unfolding rows header_words with_offsets headers_in header_in totalled
rows_offset zero v t H Z l = refl
rows_offset (suc n) v t [] Z l = absurd (omega arith)
rows_offset (suc n) v t (a ∷ []) Z l = absurd (omega arith)
rows_offset (suc n) v t (a ∷ b ∷ []) Z l = absurd (omega arith)
rows_offset (suc n) v t (a ∷ b ∷ c ∷ []) Z l = absurd (omega arith)
rows_offset (suc n) v t (a ∷ b ∷ c ∷ d ∷ H) Z l =
    ap (λ (rs : List (List ℕ)). (v ∷ t ∷ c ∷ d ∷ []) ∷ rs) (rows_offset n (v + c) (t + d) H Z (omega arith))

-- The offsets that headers get are those that their rows get, and the words behind them stay.
pub filled_rows : (n : ℕ) (H H' : List ℕ) → 4 * n ≤ length H → H' ≡ filled_words n H
    → (rows 4 n H' ≡ totalled 1 3 0 (totalled 0 2 0 (rows 4 n H))) × (drop (4 * n) H' ≡ drop (4 * n) H)
unfolding filled_words
filled_rows n H H' l e = (ap (rows 4 n) e ∙ rows_offset n 0 0 H (drop (4 * n) H) l, ap (drop (4 * n)) e ∙ filled_rest n H)
