-- No rows, and the rows whose cursors are set to where their first terms go.
use mathlib.Core.Path.{◌≡◌, refl, sym, ◌∙◌, ap, subst}
use mathlib.Core.List.{List, [], ◌∷◌, map}
use Prim.Native.Nat.{ℕ, ◌+◌, ◌*◌, ◌-◌}
use native.Mathlib.Omega.{arith}
use lib.ListN.{length, get_or, drop, set, replicate, length-replicate}
use lib.Seq.{get_or-set_other}
use Rattle.slices.specs.Rows.{rows}
use Rattle.semantics.specs.Call.{zeros}
use Rattle.semantics.specs.Lists.{All}
use Rattle.group.specs.Grouped.{Tally, Ascends, tally_row, tallied, RowInside, Rows, RowsAre, totalled}
use Rattle.group.proofs.Counting.{tally_row_cursor}

pub zeros_again : (T : List ℕ) (k : ℕ) → T ≡ replicate k 0 → T ≡ zeros (length T)
unfolding zeros
zeros_again T k e = e ∙ ap (λ (n : ℕ). replicate n 0) (sym (ap length e ∙ length-replicate {A = ℕ} k 0))

pub rows_none : (H P : List ℕ) → H ≡ zeros (length H) → RowsAre 0 H P []
unfolding tallied rows
rows_none H P e =
    let z : length H ≡ length H - 4 * 0 = omega arith in
    let d : 4 * 0 ≡ 0 = omega arith in
    (record { room = omega arith; inside = tt; ascends = tt; rest = ap (λ (k : ℕ). drop k H) d ∙ e ∙ ap zeros z }, refl)

start_tallies : (P : List ℕ) (s : ℕ) (rs : List (List ℕ)) → map (tally_row P) (totalled 1 3 s rs) ≡ map (tally_row P) rs
unfolding totalled
start_tallies P s [] = refl
start_tallies P s (row ∷ rs) =
    ap (λ (g : Tally). g ∷ map (tally_row P) (totalled 1 3 (s + get_or row 3 0) rs)) (tally_row_cursor P row s)
    ∙ ap (λ (l : List Tally). tally_row P row ∷ l) (start_tallies P (s + get_or row 3 0) rs)

start_inside : (P : List ℕ) (s : ℕ) (rs : List (List ℕ)) → All (RowInside P) rs → All (RowInside P) (totalled 1 3 s rs)
unfolding totalled
start_inside P s [] a = tt
start_inside P s (row ∷ rs) a =
    let x : get_or (set row 1 s) 0 0 ≡ get_or row 0 0 = get_or-set_other row 1 0 s 0 (λ z. absurd (omega arith)) in
    let y : get_or (set row 1 s) 2 0 ≡ get_or row 2 0 = get_or-set_other row 1 2 s 0 (λ z. absurd (omega arith)) in
    let b = a.0 in
    ((omega (arith, b.0), omega (arith, b.1)), start_inside P (s + get_or row 3 0) rs a.1)

-- The rows keep their tallies.
pub start_rows : (n : ℕ) (H H' P : List ℕ) → Rows n H P → rows 4 n H' ≡ totalled 1 3 0 (rows 4 n H) → drop (4 * n) H' ≡ drop (4 * n) H → length H' ≡ length H
    → RowsAre n H' P (tallied n H P)
unfolding tallied
start_rows n H H' P r e d l =
    let m = r.room in
    let t : tallied n H' P ≡ tallied n H P = ap (map (tally_row P)) e ∙ start_tallies P 0 (rows 4 n H) in (
      record {
        room = omega arith;
        inside = subst (All (RowInside P)) (sym e) (start_inside P 0 (rows 4 n H) r.inside);
        ascends = subst Ascends (sym t) r.ascends;
        rest = d ∙ r.rest ∙ ap (λ (i : ℕ). zeros (i - 4 * n)) (sym l);
      },
      t,
    )
