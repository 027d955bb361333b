-- The rows before and after the terms are placed, and the slices of a family when all is written.
use mathlib.Core.Path.{◌≡◌, refl, sym, ◌∙◌, ap}
use mathlib.Core.Bool.{cond}
use mathlib.Core.List.{List, [], ◌∷◌, ◌++◌, map, flat_map}
use Prim.Native.Nat.{ℕ, zero, suc, ◌+◌, ◌*◌, ◌-◌, ◌≤◌}
use native.Mathlib.Omega.{arith}
use lib.Dec.{eqb}
use lib.ListN.{length, get_or, take, drop, set, length-append, length-drop, take-append-drop}
use lib.Seq.{get_or-set_other, get_or-set_same, length-take-le, take-add, take-append_seam}
use Rattle.slices.proofs.Rows.{rows_length}
use Rattle.slices.specs.Rows.{rows}
use Rattle.semantics.specs.Monomial.{Monomial}
use Rattle.semantics.specs.Group.{Item, items_of}
use Rattle.semantics.specs.Call.{zeros, padded}
use Rattle.semantics.specs.Lists.{All}
use Rattle.semantics.proofs.Calls.{zeros_add, zeros_long, padded_is}
use Rattle.group.specs.declared.place.Form.{Form}
use Rattle.group.specs.Grouped.{Tally, tally_all, tallied_total, tally_row, tallied, RowInside, Rows, column, sum, totalled, cursors, select, placed}
use Rattle.group.specs.Grouped.{term_of, term_width, Placing, vars_in, tallied_headers, InPool, vars_named}
use Rattle.group.proofs.Tallies.{total_all, length_all}
use Rattle.group.proofs.Places.{placed_none}
use Rattle.group.proofs.Headers.{tallied_length}
use Rattle.group.proofs.RowTotals.{words, column_words}
use Rattle.group.proofs.Counting.{row_count}
use Rattle.grouping.proofs.NamedLists.{vars_length}

-- Every row has four words.
abbrev Four : List (List ℕ) → Type 0
Four rs = All (λ (row : List ℕ). length row ≡ 4) rs

rows_four : (n : ℕ) (H : List ℕ) → 4 * n ≤ length H → Four (rows 4 n H)
unfolding rows
rows_four zero H h = tt
rows_four (suc n) H h =
    let d : length (drop 4 H) ≡ length H - 4 = length-drop 4 H in
    (length-take-le 4 H (omega arith), rows_four n (drop 4 H) (omega arith))

-- Cursors set to the totals: each is where the first term goes.
start_cursors : (P : List ℕ) (s : ℕ) (rs : List (List ℕ)) → Four rs → words 1 (totalled 1 3 s rs) ≡ cursors s (map (tally_row P) rs) []
unfolding totalled cursors select
start_cursors P s [] a = refl
start_cursors P s (row ∷ rs) a =
    let e : s ≡ s + 0 = omega arith in
    let f = a.0 in
    ap (λ (x : ℕ). x ∷ words 1 (totalled 1 3 (s + get_or row 3 0) rs)) (get_or-set_same row 1 s 0 (omega arith) ∙ e)
    ∙ ap (λ (l : List ℕ). (s + 0) ∷ l)
    (start_cursors P (s + get_or row 3 0) rs a.1 ∙ ap (λ (x : ℕ). cursors (s + x) (map (tally_row P) rs) []) (sym (row_count P row)))

-- A slice of zeros with room for some words.
abbrev pub Vacant : (words slice : List ℕ) → Type 0
Vacant words slice = (slice ≡ zeros (length slice)) × (length words ≤ length slice)

zeros_padded : (ws : List ℕ) (m n : ℕ) → ws ≡ zeros m → m ≤ n → zeros n ≡ padded ws n
zeros_padded ws m n e h =
    let l : length ws ≡ m = ap length e ∙ zeros_long m in
    let a : m + (n - m) ≡ n = omega arith in
    let b : n - m ≡ n - length ws = omega arith in
    ap zeros (sym a) ∙ zeros_add m (n - m) ∙ ap (λ (k : ℕ). zeros m ++ zeros k) b ∙ ap (λ (l : List ℕ). l ++ zeros (n - length ws)) (sym e) ∙ sym (padded_is ws n)

pub placing_start : (b : Form) (n : ℕ) (H H' P T : List ℕ) → Rows n H P → Rows n H' P → tallied n H' P ≡ tallied n H P
    → rows 4 n H' ≡ totalled 1 3 0 (rows 4 n H) → Vacant (placed (term_of b) (term_width b) (tallied n H P) []) T → tallied_total (tallied n H P) ≤ 4294967295
    → Placing b (tallied n H P) n H' P T []
unfolding tallied
placing_start b n H H' P T r r' t e v s =
    let m = r.room in
    let z = placed_none (term_of b) (term_width b) (tallied n H P) in
    let q : length (placed (term_of b) (term_width b) (tallied n H P) []) ≡ term_width b * tallied_total (tallied n H P) =
    ap length z ∙ zeros_long (term_width b * tallied_total (tallied n H P)) in
    record {
      rows_are = r';
      tallies_are = t;
      cursors_are = column_words 1 n H' ∙ ap (words 1) e ∙ start_cursors P 0 (rows 4 n H) (rows_four n H m);
      terms_are = v.0 ∙ zeros_padded (placed (term_of b) (term_width b) (tallied n H P) []) (term_width b * tallied_total (tallied n H P)) (length T) z (omega (arith, v.1));
      fits = omega (arith, v.1);
      small = s;
    }

-- The sums of the two number words.
row_vars_long : (P row : List ℕ) → RowInside P row → length (tally_row P row).vars ≡ get_or row 2 0
unfolding tally_row
row_vars_long P row i =
    let d = length-drop (get_or row 0 0 + 2) P in
    length-take-le (get_or row 2 0) (drop (get_or row 0 0 + 2) P) (omega (arith, i.0))

sum_terms_lem : (P : List ℕ) (rs : List (List ℕ)) → sum (words 3 rs) ≡ tallied_total (map (tally_row P) rs)
unfolding sum tallied_total
sum_terms_lem P [] = refl
sum_terms_lem P (row ∷ rs) = ap (λ (x : ℕ). x + sum (words 3 rs)) (sym (row_count P row)) ∙ ap (λ (x : ℕ). (tally_row P row).count + x) (sum_terms_lem P rs)

sum_vars : (P : List ℕ) (rs : List (List ℕ)) → All (RowInside P) rs → sum (words 2 rs) ≡ length (vars_in (map (tally_row P) rs))
unfolding sum vars_in flat_map
sum_vars P [] a = refl
sum_vars P (row ∷ rs) a =
    ap (λ (x : ℕ). x + sum (words 2 rs)) (sym (row_vars_long P row a.0)) ∙ ap (λ (x : ℕ). length (tally_row P row).vars + x) (sum_vars P rs a.1)
    ∙ sym (length-append (tally_row P row).vars (vars_in (map (tally_row P) rs)))

sum_few : (P : List ℕ) (rs : List (List ℕ)) → All (RowInside P) rs → sum (words 2 rs) ≤ 14 * length rs
unfolding sum
sum_few P [] a = omega arith
sum_few P (row ∷ rs) a = let b = a.0 in omega (arith, b.1, sum_few P rs a.1)

module _ (n : ℕ) (H P : List ℕ) (r : Rows n H P) where
  pub total_is : sum (column 3 n H) ≡ tallied_total (tallied n H P)
  unfolding tallied
  total_is = ap sum (column_words 3 n H) ∙ sum_terms_lem P (rows 4 n H)

  pub vars_total : sum (column 2 n H) ≡ length (vars_in (tallied n H P))
  unfolding tallied
  vars_total = ap sum (column_words 2 n H) ∙ sum_vars P (rows 4 n H) r.inside

  pub vars_few : sum (column 2 n H) ≤ 14 * n
  vars_few =
      let e = ap sum (column_words 2 n H) in
      let l = rows_length 4 n H in
      omega (arith, sum_few P (rows 4 n H) r.inside)

-- The offsets filled in.
abbrev flat : List (List ℕ) → List ℕ
flat rs = flat_map (λ (row : List ℕ). row) rs

rows_flat : (n : ℕ) (H : List ℕ) → flat (rows 4 n H) ≡ take (4 * n) H
unfolding rows flat_map
rows_flat zero H = let e : 0 ≡ 4 * 0 = omega arith in ap (λ (k : ℕ). take k H) e
rows_flat (suc n) H =
    let e : 4 + 4 * n ≡ 4 * suc n = omega arith in
    ap (λ (l : List ℕ). take 4 H ++ l) (rows_flat n (drop 4 H)) ∙ sym (take-add 4 (4 * n) H) ∙ ap (λ (k : ℕ). take k H) e

two_offsets : (row : List ℕ) (v t : ℕ) → length row ≡ 4 → set (set row 0 v) 1 t ≡ v ∷ t ∷ get_or row 2 0 ∷ get_or row 3 0 ∷ []
two_offsets [] v t h = absurd (omega arith)
two_offsets (a ∷ []) v t h = absurd (omega arith)
two_offsets (a ∷ b ∷ []) v t h = absurd (omega arith)
two_offsets (a ∷ b ∷ c ∷ []) v t h = absurd (omega arith)
two_offsets (a ∷ b ∷ c ∷ d ∷ []) v t h = refl
two_offsets (a ∷ b ∷ c ∷ d ∷ e ∷ row) v t h = absurd (omega arith)

flat_headers : (P : List ℕ) (v t : ℕ) (rs : List (List ℕ)) → Four rs → All (RowInside P) rs
    → flat (totalled 1 3 t (totalled 0 2 v rs)) ≡ tallied_headers v t (map (tally_row P) rs)
unfolding totalled tallied_headers flat_map
flat_headers P v t [] f a = refl
flat_headers P v t (row ∷ rs) f a =
    let x : get_or (set row 0 v) 3 0 ≡ get_or row 3 0 = get_or-set_other row 0 3 v 0 (λ z. absurd (omega arith)) in
    let y = row_vars_long P row a.0 in
    let c = row_count P row in
    ap (λ (l : List ℕ). l ++ flat (totalled 1 3 (t + get_or (set row 0 v) 3 0) (totalled 0 2 (v + get_or row 2 0) rs))) (two_offsets row v t f.0)
    ∙ ap (λ (k : ℕ). v ∷ t ∷ get_or row 2 0 ∷ get_or row 3 0 ∷ flat (totalled 1 3 (t + k) (totalled 0 2 (v + get_or row 2 0) rs))) x
    ∙ ap (λ (l : List ℕ). v ∷ t ∷ get_or row 2 0 ∷ get_or row 3 0 ∷ l) (flat_headers P (v + get_or row 2 0) (t + get_or row 3 0) rs f.1 a.1)
    ∙ ap (λ (k : ℕ). v ∷ t ∷ k ∷ get_or row 3 0 ∷ tallied_headers (v + k) (t + get_or row 3 0) (map (tally_row P) rs)) (sym y)
    ∙ ap (λ (k : ℕ). v ∷ t ∷ length (tally_row P row).vars ∷ k ∷ tallied_headers (v + length (tally_row P row).vars) (t + k) (map (tally_row P) rs)) (sym c)

headers_long : (v t : ℕ) (gs : List Tally) → length (tallied_headers v t gs) ≡ 4 * length gs
unfolding tallied_headers
headers_long v t [] = omega arith
headers_long v t (g ∷ gs) = omega (arith, headers_long (v + length g.vars) (t + g.count) gs)

pub headers_filled : (n : ℕ) (H H' P : List ℕ) → Rows n H P → rows 4 n H' ≡ totalled 1 3 0 (totalled 0 2 0 (rows 4 n H)) → drop (4 * n) H' ≡ drop (4 * n) H
    → length H' ≡ length H → H' ≡ padded (tallied_headers 0 0 (tallied n H P)) (length H')
unfolding tallied
headers_filled n H H' P r e d l =
    let hs : List ℕ = tallied_headers 0 0 (tallied n H P) in
    let lh : length hs ≡ 4 * n = headers_long 0 0 (tallied n H P) ∙ ap (λ (k : ℕ). 4 * k) (tallied_length n H P) in
    let q : length H - 4 * n ≡ length H' - length hs = omega arith in
    sym (take-append-drop (4 * n) H')
    ∙ ap (λ (x : List ℕ). x ++ drop (4 * n) H') (sym (rows_flat n H') ∙ ap flat e ∙ flat_headers P 0 0 (rows 4 n H) (rows_four n H r.room) r.inside)
    ∙ ap (λ (x : List ℕ). hs ++ x) (d ∙ r.rest ∙ ap zeros q) ∙ sym (padded_is hs (length H'))

-- The items of a root carry its label, whatever record it names.
pub items_label : (c index field : ℕ) (ms : List Monomial)
    → items_of (record { node = c; index = index; field = field }) ms ≡ items_of (record { node = 0; index = index; field = field }) ms
unfolding items_of
items_label c index field [] = refl
items_label c index field (m ∷ ms) =
    ap (λ (l : List Item). cond (eqb m.coef 0) l (record { vars = m.vars; index = index; field = field; coef = m.coef } ∷ l)) (items_label c index field ms)

pub total_nil : tallied_total [] ≡ 0
unfolding tallied_total
total_nil = refl

-- There are few monomials, and so few rows.
pub family_small : (n : ℕ) (H P references : List ℕ) → tallied n H P ≡ tally_all (vars_named P references) [] → All (InPool P) references → length references ≤ 65536
    → (tallied_total (tallied n H P) ≤ 16777216) × (n ≤ 16777216)
family_small n H P references g a h =
    let f = vars_length P references a in
    let t = ap tallied_total g ∙ total_all (vars_named P references) [] in
    let z : tallied_total [] ≡ 0 = total_nil in
    let l = length_all (vars_named P references) [] in
    let e = sym (tallied_length n H P) ∙ ap length g in
    (omega arith, omega arith)

pub vacant_terms : (b : Form) (gs : List Tally) (T : List ℕ) → T ≡ zeros (length T) → term_width b * tallied_total gs ≤ length T
    → Vacant (placed (term_of b) (term_width b) gs []) T
vacant_terms b gs T e h = (e, let q = ap length (placed_none (term_of b) (term_width b) gs) ∙ zeros_long (term_width b * tallied_total gs) in omega arith)

-- Words that were written to the front of a slice.
pub written_starts : (ws s s' : List ℕ) → length ws ≤ length s → length s' ≡ length s → s' ≡ ws ++ drop (length ws) s
    → (length ws ≤ length s') × (take (length ws) s' ≡ ws)
written_starts ws s s' h l e = (omega arith, ap (take (length ws)) e ∙ take-append_seam ws (drop (length ws) s))
