-- Monomials that wait are put in among the rows, from the last to the first: the rows in front, a gap for those still to come, and the rest.
use mathlib.Core.Path.{◌≡◌, refl, sym, ◌∙◌, ap, subst}
use mathlib.Core.Bool.{true}
use mathlib.Core.List.{List, [], ◌∷◌, ◌++◌, map, append_assoc}
use Prim.Native.Nat.{ℕ, suc, ◌+◌, ◌*◌, ◌-◌, ◌≤◌, ◌<◌}
use native.Mathlib.Omega.{arith}
use lib.ListN.{length, get_or, take, drop, length-append, length-drop, take-append-drop}
use lib.Seq.{sets, sets-eq, drop-drop, drop_at, take-append-le, drop-append-le, take-take, length-take-le, take-add}
use Rattle.std.specs.List.{copy_within}
use Rattle.slices.proofs.Rows.{rows_front, rows_insert}
use Rattle.slices.proofs.Lists.{map_insert}
use Rattle.slices.specs.Rows.{rows}
use Rattle.semantics.specs.Monomial.{before_vars}
use Rattle.semantics.specs.Call.{zeros}
use Rattle.semantics.specs.Lists.{All}
use Rattle.semantics.proofs.Calls.{drop_zeros}
use Rattle.std.specs.Prelude.{Err}
use Rattle.group.specs.Grouped.{Tally, tally, tally_all, tally_row, tallied, Ascends, RowInside, Rows, Spot, RowsAre}
use Rattle.group.specs.declared.waits.Waiting.{Waiting}
use Rattle.group.specs.Waiting.{PlaceInside, nobody, waiting_vars, Batch, batched}
use Rattle.group.proofs.Tallies.{once, tally_ascends}
use Rattle.group.proofs.Headers.{tallied_length}
use Rattle.group.proofs.Counting.{tally_missing, all_insert, tally_once, read_vars}
use Rattle.group.proofs.Awaiting.{waiting_from, waiting_end, spot_from, tally_from, length_waiting, missing_le_missing, batched_is}

-- A row put in.
module _ (m k : ℕ) (W P v : List ℕ) (r : Rows m W P) (s : Spot v (tallied m W P) (Err k)) where
  inner_le : k ≤ m
  inner_le = subst (λ (x : ℕ). k ≤ x) (tallied_length m W P) s.0

  pub row_in : (at c : ℕ) (W' : List ℕ) → at + 2 + c ≤ length P → c ≤ 14 → v ≡ take c (drop (at + 2) P)
      → W' ≡ take (4 * k) W ++ ((at ∷ 0 ∷ c ∷ 1 ∷ []) ++ drop (4 * k) W) → RowsAre (m + 1) W' P (tally v (tallied m W P))
  unfolding tallied
  row_in at c W' i f e w =
      let h = inner_le in
      let o = r.room in
      let row : List ℕ = at ∷ 0 ∷ c ∷ 1 ∷ [] in
      let R : List (List ℕ) = rows 4 m W in
      let M : List ℕ = take (4 * m - 4 * k) (drop (4 * k) W) in
      let Z : List ℕ = drop (4 * m) W in
      let y : 4 * k + (4 * m - 4 * k) ≡ 4 * m = omega arith in
      let mz : M ++ Z ≡ drop (4 * k) W =
      ap (λ (x : List ℕ). M ++ x) (ap (λ (x : ℕ). drop x W) (sym y) ∙ sym (drop-drop (4 * m - 4 * k) (4 * k) W)) ∙ take-append-drop (4 * m - 4 * k) (drop (4 * k) W) in
      let u : W' ≡ take (4 * k) W ++ (row ++ (M ++ Z)) = w ∙ ap (λ (x : List ℕ). take (4 * k) W ++ (row ++ x)) (sym mz) in
      let a : rows 4 (m + 1) W' ≡ take k R ++ (row ∷ drop k R) =
      ap (rows 4 (m + 1)) u ∙ rows_insert 4 m k W row Z h o refl in
      let q : tallied (m + 1) W' P ≡ tally v (tallied m W P) =
      ap (map (tally_row P)) a ∙ map_insert (tally_row P) R k row
      ∙ ap (λ (g : Tally). take k (map (tally_row P) R) ++ (g ∷ drop k (map (tally_row P) R))) (tally_once P at c ∙ ap once (sym e))
      ∙ sym (tally_missing v (tallied m W P) k s) in
      let dl : length (drop (4 * k) W) ≡ length W - 4 * k = length-drop (4 * k) W in
      let la : length (take (4 * k) W) ≡ 4 * k = length-take-le (4 * k) W (omega arith) in
      let lm : length M ≡ 4 * m - 4 * k = length-take-le (4 * m - 4 * k) (drop (4 * k) W) (omega arith) in
      let lv : length W' ≡ 4 * k + (4 + (length W - 4 * k)) =
      ap length w ∙ length-append (take (4 * k) W) (row ++ drop (4 * k) W)
      ∙ ap (λ (j : ℕ). length (take (4 * k) W) + j) (length-append row (drop (4 * k) W)) ∙ omega arith in
      let F : List ℕ = take (4 * k) W ++ (row ++ M) in
      let lf : length F ≡ 4 * (m + 1) =
      length-append (take (4 * k) W) (row ++ M) ∙ ap (λ (j : ℕ). length (take (4 * k) W) + j) (length-append row M) ∙ omega arith in
      let sp : W' ≡ F ++ Z =
      u ∙ ap (λ (x : List ℕ). take (4 * k) W ++ x) (sym (append_assoc row M Z)) ∙ sym (append_assoc (take (4 * k) W) (row ++ M) Z) in
      let z : length W - 4 * m ≡ length W' - 4 * (m + 1) = omega arith in (
        record {
          room = omega arith;
          inside = subst (All (RowInside P)) (sym a) (all_insert (RowInside P) R k row r.inside (i, f));
          ascends = subst Ascends (sym q) (tally_ascends v (tallied m W P) r.ascends);
          rest = ap (drop (4 * (m + 1))) sp ∙ drop_at F Z (4 * (m + 1)) lf ∙ r.rest ∙ ap zeros z;
        },
        q,
      )

-- The words without the gap for j rows behind row `end`.
abbrev pub closed : (H : List ℕ) (end j : ℕ) → List ℕ
closed H end j = take (4 * end) H ++ drop (4 * end + 4 * j) H

-- The rows from k to `end` are moved up, over a gap of j + 1 rows, and a row is written before them: the words without the gap have the row put in.
gap_in : (H S H' row : List ℕ) (k end j : ℕ) → k ≤ end → 4 * end + (4 * j + 4) ≤ length H → length row ≡ 4
    → S ≡ take (4 * k + (4 * j + 4)) H ++ (take (4 * end - 4 * k) (drop (4 * k) H) ++ drop (4 * end + (4 * j + 4)) H)
    → H' ≡ sets S (4 * k + 4 * j) row
    → closed H' k j ≡ take (4 * k) (closed H end (suc j)) ++ (row ++ drop (4 * k) (closed H end (suc j)))
gap_in H S H' row k end j h l r s e =
    let X : List ℕ = take (4 * k + (4 * j + 4)) H in
    let M : List ℕ = take (4 * end - 4 * k) (drop (4 * k) H) in
    let Z : List ℕ = drop (4 * end + (4 * j + 4)) H in
    let lx : length X ≡ 4 * k + (4 * j + 4) = length-take-le (4 * k + (4 * j + 4)) H (omega arith) in
    let y : 4 * k + 4 * j + length row ≡ 4 * k + (4 * j + 4) = omega arith in
    let b : 4 * k + 4 * j + length row ≤ length (X ++ (M ++ Z)) = rw (length-append X (M ++ Z)) (omega arith) in
    let T : List ℕ = take (4 * k + 4 * j) H in
    let lt : length T ≡ 4 * k + 4 * j = length-take-le (4 * k + 4 * j) H (omega arith) in
    let p : H' ≡ T ++ (row ++ (M ++ Z)) =
    e ∙ ap (λ (x : List ℕ). sets x (4 * k + 4 * j) row) s
    ∙ sets-eq row (X ++ (M ++ Z)) (4 * k + 4 * j) b
    ∙ ap (λ (x : List ℕ). (x ++ row) ++ drop (4 * k + 4 * j + length row) (X ++ (M ++ Z)))
    (take-append-le (4 * k + 4 * j) X (M ++ Z) (omega arith) ∙ take-take (4 * k + 4 * j) (4 * k + (4 * j + 4)) H (omega arith))
    ∙ ap (λ (x : List ℕ). (T ++ row) ++ x) (drop_at X (M ++ Z) (4 * k + 4 * j + length row) (lx ∙ sym y))
    ∙ append_assoc T row (M ++ Z) in
    let f : take (4 * k) H' ≡ take (4 * k) H =
    ap (take (4 * k)) p ∙ take-append-le (4 * k) T (row ++ (M ++ Z)) (omega arith) ∙ take-take (4 * k) (4 * k + 4 * j) H (omega arith) in
    let g : drop (4 * k + 4 * j) H' ≡ row ++ (M ++ Z) = ap (drop (4 * k + 4 * j)) p ∙ drop_at T (row ++ (M ++ Z)) (4 * k + 4 * j) lt in
    let le : length (take (4 * end) H) ≡ 4 * end = length-take-le (4 * end) H (omega arith) in
    let d : 4 * end + 4 * suc j ≡ 4 * end + (4 * j + 4) = omega arith in
    let Y : List ℕ = drop (4 * end + 4 * suc j) H in
    let u : take (4 * k) (closed H end (suc j)) ≡ take (4 * k) H =
    take-append-le (4 * k) (take (4 * end) H) Y (omega arith) ∙ take-take (4 * k) (4 * end) H (omega arith) in
    let n : 4 * end ≡ 4 * k + (4 * end - 4 * k) = omega arith in
    let lk : length (take (4 * k) H) ≡ 4 * k = length-take-le (4 * k) H (omega arith) in
    let c : drop (4 * k) (take (4 * end) H) ≡ M =
    ap (λ (x : ℕ). drop (4 * k) (take x H)) n ∙ ap (drop (4 * k)) (take-add (4 * k) (4 * end - 4 * k) H) ∙ drop_at (take (4 * k) H) M (4 * k) lk in
    let v : drop (4 * k) (closed H end (suc j)) ≡ M ++ Z =
    drop-append-le (4 * k) (take (4 * end) H) Y (omega arith) ∙ ap (λ (x : List ℕ). x ++ Y) c ∙ ap (λ (x : ℕ). M ++ drop x H) d in
    (λ i. f i ++ g i) ∙ sym (λ i. u i ++ (row ++ v i))

-- What moving the rows from k to `end` up by j + 1 rows leaves.
raised_is : (H : List ℕ) (k end j : ℕ) → k ≤ end
    → copy_within H (4 * k) (4 * end) (4 * k + 4 * j + 4) ≡ take (4 * k + (4 * j + 4)) H ++ (take (4 * end - 4 * k) (drop (4 * k) H) ++ drop (4 * end + (4 * j + 4)) H)
raised_is H k end j h =
    let a : 4 * k + 4 * j + 4 ≡ 4 * k + (4 * j + 4) = omega arith in
    let b : 4 * k + 4 * j + 4 + (4 * end - 4 * k) ≡ 4 * end + (4 * j + 4) = omega arith in
    append_assoc (take (4 * k + 4 * j + 4) H) (take (4 * end - 4 * k) (drop (4 * k) H)) (drop (4 * k + 4 * j + 4 + (4 * end - 4 * k)) H)
    ∙ λ i. take (a i) H ++ (take (4 * end - 4 * k) (drop (4 * k) H) ++ drop (b i) H)

-- While they are put in: j are still to come, and `end` rows in front are as they were.
pub record Inserting (H₀ : List ℕ) (n : ℕ) (P : List ℕ) (ws : List Waiting) (b : ℕ) (H : List ℕ) (end j : ℕ) : Type 0 where
  pub upto : j ≤ b
  pub fits : 4 * n + 4 * b ≤ length H
  pub inner : end ≤ n
  pub long : length H ≡ length H₀
  pub rows_are : Rows (n + (b - j)) (closed H end j) P
  pub tallies_are : tallied (n + (b - j)) (closed H end j) P ≡ tally_all (waiting_from b ws P j) (tallied n H₀ P)
  pub low : (v : List ℕ) (k : ℕ) → Spot v (tallied n H₀ P) (Err k) → (j < b → before_vars v (waiting_vars P (get_or ws j nobody)) ≡ true) → k ≤ end

module _ {n b : ℕ} {H₀ P : List ℕ} {ws : List Waiting} (t : Batch n b H₀ P ws) where
  -- No room.
  pub insert_full : length H₀ - 4 * n < 4 * b → length H₀ < 4 * length (batched n b H₀ P ws)
  insert_full h =
      let e = ap length (batched_is n b H₀ P ws) ∙ length_waiting t.waiting in
      let l = tallied_length n H₀ P in
      let o = t.rows_are.room in
      omega arith

  pub insert_start : 4 * n + 4 * b ≤ length H₀ → Inserting H₀ n P ws b H₀ n b
  unfolding tallied tally_all
  insert_start h =
      let o = t.rows_are.room in
      let r = t.rows_are in
      let z : n + (b - b) ≡ n = omega arith in
      let Z : List ℕ = drop (4 * n + 4 * b) H₀ in
      let C : List ℕ = closed H₀ n b in
      let a : rows 4 n C ≡ rows 4 n H₀ = rows_front 4 n H₀ Z o in
      let q : tallied n C P ≡ tallied n H₀ P = ap (map (tally_row P)) a in
      let lt : length (take (4 * n) H₀) ≡ 4 * n = length-take-le (4 * n) H₀ o in
      let lz : length Z ≡ length H₀ - (4 * n + 4 * b) = length-drop (4 * n + 4 * b) H₀ in
      let lc : length C ≡ 4 * n + (length H₀ - (4 * n + 4 * b)) = length-append (take (4 * n) H₀) Z ∙ omega arith in
      let x : length H₀ - 4 * n - 4 * b ≡ length C - 4 * n = omega arith in
      let k : Rows n C P = record {
        room = omega arith;
        inside = subst (All (RowInside P)) (sym a) r.inside;
        ascends = subst Ascends (sym q) r.ascends;
        rest =
            drop_at (take (4 * n) H₀) Z (4 * n) lt ∙ sym (drop-drop (4 * b) (4 * n) H₀) ∙ ap (drop (4 * b)) r.rest
            ∙ drop_zeros (4 * b) (length H₀ - 4 * n) ∙ ap zeros x;
      } in
      record {
        upto = omega arith;
        fits = omega arith;
        inner = omega arith;
        long = refl;
        rows_are = subst (λ (i : ℕ). Rows i C P) (sym z) k;
        tallies_are = ap (λ (i : ℕ). tallied i C P) z ∙ q ∙ ap (λ (vs : List (List ℕ)). tally_all vs (tallied n H₀ P)) (sym (waiting_end t.waiting b (omega arith)));
        low = λ v i s _. subst (λ (y : ℕ). i ≤ y) (tallied_length n H₀ P) s.0;
      }

  module _ {H : List ℕ} {end j : ℕ} (g : Inserting H₀ n P ws b H end j) where
    -- What the next one asks.
    pub insert_next : (i : ℕ) → j ≡ suc i → ((get_or ws i nobody).front ≤ end) × PlaceInside P (get_or ws i nobody).place
    insert_next i e =
        let u = g.upto in
        let p = t.waiting in
        let h : i < b = omega arith in (
          g.low (waiting_vars P (get_or ws i nobody)) (get_or ws i nobody).front (p.missing i h)
              (λ l. subst (λ (x : ℕ). before_vars (waiting_vars P (get_or ws i nobody)) (waiting_vars P (get_or ws x nobody)) ≡ true) (sym e) (p.ascends i (omega arith))),
          p.inside i h,
        )

    pub insert_step : (i : ℕ) → j ≡ suc i → (S H' : List ℕ) → length H' ≡ length H
        → S ≡ copy_within H (4 * (get_or ws i nobody).front) (4 * end) (4 * (get_or ws i nobody).front + 4 * i + 4)
        → H' ≡ sets S (4 * (get_or ws i nobody).front + 4 * i) ((get_or ws i nobody).place ∷ 0 ∷ get_or P (get_or ws i nobody).place 0 ∷ 1 ∷ [])
        → Inserting H₀ n P ws b H' (get_or ws i nobody).front i
    insert_step i e S H' z s w =
        let p = t.waiting in
        let u = g.upto in
        let h : i < b = omega arith in
        let k : ℕ = (get_or ws i nobody).front in
        let at : ℕ = (get_or ws i nobody).place in
        let v : List ℕ = waiting_vars P (get_or ws i nobody) in
        let A : List Tally = tallied n H₀ P in
        let x = insert_next i e in
        let f = g.fits in
        let o = g.inner in
        let W : List ℕ = closed H end (suc i) in
        let W' : List ℕ = closed H' k i in
        let c : n + (b - suc i) ≡ n + (b - j) = omega arith in
        let m : ℕ = n + (b - suc i) in
        let r : Rows m W P = subst (λ (y : ℕ). Rows (n + (b - y)) (closed H end y) P) e g.rows_are in
        let q : tallied m W P ≡ tally_all (waiting_from b ws P (suc i)) A =
        subst (λ (y : ℕ). tallied (n + (b - y)) (closed H end y) P ≡ tally_all (waiting_from b ws P y) A) e g.tallies_are in
        let sp : Spot v (tallied m W P) (Err k) = subst (λ (l : List Tally). Spot v l (Err k)) (sym q) (spot_from p i h) in
        let raised : S ≡ take (4 * k + (4 * i + 4)) H ++ (take (4 * end - 4 * k) (drop (4 * k) H) ++ drop (4 * end + (4 * i + 4)) H) =
        s ∙ raised_is H k end i x.0 in
        let gap : W' ≡ take (4 * k) W ++ ((at ∷ 0 ∷ get_or P at 0 ∷ 1 ∷ []) ++ drop (4 * k) W) =
        gap_in H S H' (at ∷ 0 ∷ get_or P at 0 ∷ 1 ∷ []) k end i x.0 (omega arith) refl raised w in
        let d = row_in m k W P v r sp at (get_or P at 0) W' x.1.1 x.1.0 (read_vars P at) gap in
        let y : m + 1 ≡ n + (b - i) = omega arith in
        let l = p.missing i h in
        record {
          upto = omega arith;
          fits = omega arith;
          inner = subst (λ (y : ℕ). k ≤ y) (tallied_length n H₀ P) l.0;
          long = z ∙ g.long;
          rows_are = subst (λ (y : ℕ). Rows y W' P) y d.0;
          tallies_are = subst (λ (y : ℕ). tallied y W' P ≡ tally_all (waiting_from b ws P i) A) y (d.1 ∙ ap (tally v) q ∙ sym (tally_from p i h));
          low = λ a y s' a'. missing_le_missing a v A y k s' l (a' h);
        }

    pub insert_done : j ≤ 0 → RowsAre (n + b) H P (batched n b H₀ P ws)
    insert_done h =
        let z : j ≡ 0 = omega arith in
        let x : n + (b - 0) ≡ n + b = omega arith in
        let y : 4 * end + 4 * 0 ≡ 4 * end = omega arith in
        let c : closed H end 0 ≡ H = ap (λ (i : ℕ). take (4 * end) H ++ drop i H) y ∙ take-append-drop (4 * end) H in
        let r = subst (λ (i : ℕ). Rows (n + (b - i)) (closed H end i) P) z g.rows_are in
        let q = subst (λ (i : ℕ). tallied (n + (b - i)) (closed H end i) P ≡ tally_all (waiting_from b ws P i) (tallied n H₀ P)) z g.tallies_are in (
          subst (λ (i : ℕ). Rows i H P) x (subst (λ (l : List ℕ). Rows (n + (b - 0)) l P) c r),
          subst (λ (i : ℕ). tallied i H P ≡ tally_all (waiting_from b ws P 0) (tallied n H₀ P)) x
              (subst (λ (l : List ℕ). tallied (n + (b - 0)) l P ≡ tally_all (waiting_from b ws P 0) (tallied n H₀ P)) c q)
              ∙ sym (batched_is n b H₀ P ws),
        )
