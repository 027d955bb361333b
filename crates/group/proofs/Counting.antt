-- The rows while monomials are counted: the search for variables, one count more, one row more.
use mathlib.Core.Path.{◌≡◌, refl, sym, ◌∙◌, ap, subst}
use mathlib.Core.Bool.{Bool, true, false}
use mathlib.Core.List.{List, [], ◌∷◌, ◌++◌, map}
use Prim.Native.Nat.{ℕ, zero, suc, ◌+◌, ◌*◌, ◌-◌, ◌≤◌, ◌<◌}
use native.Mathlib.Numerals.{add-one}
use native.Mathlib.Omega.{arith}
use lib.Dec.{ltb}
use borrow.Author.Count.{below_more}
use borrow.Author.Tests.{ltb-true, ltb-false}
use lib.ListN.{length, get_or, take, drop, set, length-drop, length-set}
use lib.Seq.{drop-set-lt, get_or-set_other, get_or-set_same, drop-drop, length-take-le, get_or-drop}
use Rattle.slices.proofs.Rows.{rows_length, rows_at, word_at, rows_set}
use Rattle.slices.specs.Rows.{rows}
use Rattle.slices.proofs.Lists.{map_set}
use Rattle.semantics.specs.Monomial.{before_vars}
use Rattle.semantics.specs.Call.{zeros}
use Rattle.semantics.specs.Lists.{All}
use Rattle.semantics.proofs.Sorting.{all_within}
use Rattle.semantics.proofs.Order.{before_vars_trans, before_vars_total}
use Rattle.std.specs.declared.cmp.Ordering.{Ordering}
use Rattle.std.specs.declared.cmp.Ordering.TheVariants.{Less, Equal, Greater}
use Rattle.std.specs.Prelude.{Ok, Err}
use Rattle.monomial.specs.Words.{read_monomial}
use Rattle.monomial.specs.Orders.{chosen, order_of}
use Rattle.group.specs.Grouped.{Tally, tally, Ascends, tallied_total, none, tally_row, tallied, RowInside, Rows, Spot, Between, RowsAre}
use Rattle.group.proofs.Tallies.{once, again, tally_nil, tally_less, tally_more, tally_same, tally_ascends}
use Rattle.group.proofs.Headers.{tallied_length, tallied_at, vars_at_lem, count_at, total_at}

-- What an order says.
abbrev pub Told : (v w : List ℕ) → Ordering → Type 0
Told v w Less = before_vars v w ≡ true
Told v w Greater = before_vars w v ≡ true
Told v w Equal = w ≡ v

pub order_told : (v w : List ℕ) (o : Ordering) → o ≡ order_of v w → Told v w o
unfolding order_of
order_told v w o e = subst (Told v w) (sym e) (go (before_vars v w) (before_vars w v) refl refl)
  where
    go : (s t : Bool) → before_vars v w ≡ s → before_vars w v ≡ t → Told v w (chosen s Less (chosen t Greater Equal))
    go true t d e = d
    go false true d e = e
    go false false d e = sym (before_vars_total v w d e)

pub told_at : (n k : ℕ) (H P v : List ℕ) (o p : Ordering) → k < n → o ≡ order_of v (take (get_or H (4 * k + 2) 0) (drop (get_or H (4 * k) 0 + 2) P)) → o ≡ p
    → Told v (get_or (tallied n H P) k none).vars p
told_at n k H P v o p h e q =
    subst (Told v (get_or (tallied n H P) k none).vars) q
    (order_told v (get_or (tallied n H P) k none).vars o (e ∙ ap (order_of v) (sym (vars_at_lem n k H P h))))

pub ascends_at : (gs : List Tally) (i j : ℕ) → Ascends gs → i < j → j < length gs → before_vars (get_or gs i none).vars (get_or gs j none).vars ≡ true
ascends_at [] i j a h l = absurd (omega arith)
ascends_at (g ∷ gs) zero zero a h l = absurd (omega arith)
ascends_at (g ∷ gs) zero (suc j) a h l = all_within (λ (x : Tally). before_vars g.vars x.vars ≡ true) gs j none a.0 (omega arith)
ascends_at (g ∷ gs) (suc i) zero a h l = absurd (omega arith)
ascends_at (g ∷ gs) (suc i) (suc j) a h l = ascends_at gs i j a.1 (omega arith) (omega arith)

module _ (v : List ℕ) (gs : List Tally) where
  pub between_all : (n : ℕ) → length gs ≡ n → Between v gs 0 n
  between_all n e = (omega arith, omega arith, (λ i h. absurd (omega arith)), (λ i h l. absurd (omega arith)))

  pub between_low : (low mid high : ℕ) → Ascends gs → Between v gs low high → low ≤ mid → mid < high
      → before_vars v (get_or gs mid none).vars ≡ true → Between v gs low mid
  between_low low mid high a b h l k = (h, omega (arith, b.1), b.2, behind)
    where
      behind : (i : ℕ) → mid ≤ i → i < length gs → before_vars v (get_or gs i none).vars ≡ true
      behind i q r = go (ltb mid i) refl
        where
          go : (x : Bool) → ltb mid i ≡ x → before_vars v (get_or gs i none).vars ≡ true
          go true e = before_vars_trans v (get_or gs mid none).vars (get_or gs i none).vars k (ascends_at gs mid i a (ltb-true mid i e) r)
          go false e =
              let f : i ≤ mid = ltb-false mid i e in
              let d : mid ≡ i = omega arith in
              subst (λ (j : ℕ). before_vars v (get_or gs j none).vars ≡ true) d k

  pub between_high : (low mid high : ℕ) → Ascends gs → Between v gs low high → low ≤ mid → mid < high
      → before_vars (get_or gs mid none).vars v ≡ true → Between v gs (mid + 1) high
  between_high low mid high a b h l k =
      let front = λ (i : ℕ) (q : i < mid). before_vars_trans (get_or gs i none).vars (get_or gs mid none).vars v (ascends_at gs i mid a q (omega (arith, b.1))) k in
      (omega arith, b.1, below_more (λ i. before_vars (get_or gs i none).vars v ≡ true) mid front k, b.3)

-- The tally of variables that are found, and of variables that are not.
pub tally_there : (v : List ℕ) (gs : List Tally) (k : ℕ) → Ascends gs → k < length gs → (get_or gs k none).vars ≡ v
    → tally v gs ≡ set gs k (again (get_or gs k none))
tally_there v [] k a h e = absurd (omega arith)
tally_there v (g ∷ gs) zero a h e = tally_same v g gs (sym e)
tally_there v (g ∷ gs) (suc k) a h e =
    let b = subst (λ (w : List ℕ). before_vars g.vars w ≡ true) e (all_within (λ (x : Tally). before_vars g.vars x.vars ≡ true) gs k none a.0 (omega arith)) in
    tally_more v g gs b ∙ ap (λ (l : List Tally). g ∷ l) (tally_there v gs k a.1 (omega arith) e)

pub tally_missing : (v : List ℕ) (gs : List Tally) (k : ℕ) → Spot v gs (Err k) → tally v gs ≡ take k gs ++ (once v ∷ drop k gs)
tally_missing v [] zero s = tally_nil v
tally_missing v (g ∷ gs) zero s = tally_less v g gs (s.2 0 (omega arith) (omega arith))
tally_missing v [] (suc k) s = absurd (omega (arith, s.0))
tally_missing v (g ∷ gs) (suc k) s =
    tally_more v g gs (s.1 0 (omega arith))
    ∙ ap (λ (l : List Tally). g ∷ l)
    (tally_missing v gs k (omega (arith, s.0), (λ i h. s.1 (suc i) (omega arith)), (λ i h l. s.2 (suc i) (omega arith) (omega arith))))

pub all_set : {X : Type 0} (Q : X → Type 0) (l : List X) (k : ℕ) (x : X) → All Q l → Q x → All Q (set l k x)
all_set Q [] k x a q = tt
all_set Q (y ∷ l) zero x a q = (q, a.1)
all_set Q (y ∷ l) (suc k) x a q = (a.0, all_set Q l k x a.1 q)

pub all_insert : {X : Type 0} (Q : X → Type 0) (l : List X) (k : ℕ) (x : X) → All Q l → Q x → All Q (take k l ++ (x ∷ drop k l))
all_insert Q [] zero x a q = (q, tt)
all_insert Q [] (suc k) x a q = (q, tt)
all_insert Q (y ∷ l) zero x a q = (q, a)
all_insert Q (y ∷ l) (suc k) x a q = (a.0, all_insert Q l k x a.1 q)

pub row_long : (n k : ℕ) (H : List ℕ) → k < n → 4 * n ≤ length H → length (get_or (rows 4 n H) k []) ≡ 4
row_long n k H h l =
    let d : length (drop (4 * k) H) ≡ length H - 4 * k = length-drop (4 * k) H in
    ap length (rows_at 4 n k H h) ∙ length-take-le 4 (drop (4 * k) H) (omega arith)

-- What a row says when its cursor or its count is changed.
pub tally_row_cursor : (P row : List ℕ) (x : ℕ) → tally_row P (set row 1 x) ≡ tally_row P row
unfolding tally_row
tally_row_cursor P row x =
    let a : get_or (set row 1 x) 0 0 ≡ get_or row 0 0 = get_or-set_other row 1 0 x 0 (λ e. absurd (omega arith)) in
    let b : get_or (set row 1 x) 2 0 ≡ get_or row 2 0 = get_or-set_other row 1 2 x 0 (λ e. absurd (omega arith)) in
    let c : get_or (set row 1 x) 3 0 ≡ get_or row 3 0 = get_or-set_other row 1 3 x 0 (λ e. absurd (omega arith)) in
    rw (a, b, c)

pub row_count : (P row : List ℕ) → (tally_row P row).count ≡ get_or row 3 0
unfolding tally_row
row_count P row = refl

tally_row_count : (P row : List ℕ) (x : ℕ) → 3 < length row → tally_row P (set row 3 x) ≡ record { vars = (tally_row P row).vars; count = x }
unfolding tally_row
tally_row_count P row x h =
    let a : get_or (set row 3 x) 0 0 ≡ get_or row 0 0 = get_or-set_other row 3 0 x 0 (λ e. absurd (omega arith)) in
    let b : get_or (set row 3 x) 2 0 ≡ get_or row 2 0 = get_or-set_other row 3 2 x 0 (λ e. absurd (omega arith)) in
    let c : get_or (set row 3 x) 3 0 ≡ x = get_or-set_same row 3 x 0 h in
    rw (a, b, c)

-- One count more in row k.
module _ (n k : ℕ) (H P v : List ℕ) (r : Rows n H P) where
  pub there_lt : Spot v (tallied n H P) (Ok k) → k < n
  there_lt s = subst (λ (m : ℕ). k < m) (tallied_length n H P) s.0

  -- Its count is at most the number of all monomials.
  pub there_small : Spot v (tallied n H P) (Ok k) → get_or H (4 * k + 3) 0 ≤ tallied_total (tallied n H P)
  there_small s = subst (λ (x : ℕ). x ≤ tallied_total (tallied n H P)) (count_at n k H P (there_lt s)) (total_at (tallied n H P) k s.0)

  pub count_more : Spot v (tallied n H P) (Ok k) → RowsAre n (set H (4 * k + 3) (get_or H (4 * k + 3) 0 + 1)) P (tally v (tallied n H P))
  unfolding tallied
  count_more s =
      let h = there_lt s in
      let x : ℕ = get_or H (4 * k + 3) 0 + 1 in
      let R : List (List ℕ) = rows 4 n H in
      let row : List ℕ = get_or R k [] in
      let e = rows_set 4 n k 3 x H h (omega arith) in
      let l = row_long n k H h r.room in
      let m = r.room in
      let j : 4 * k + 3 < 4 * n = omega arith in
      let w : x ≡ suc (tally_row P row).count = add-one (get_or H (4 * k + 3) 0) ∙ ap suc (sym (word_at 4 n k 3 H h (omega arith)) ∙ sym (row_count P row)) in
      let t : tally_row P (set row 3 x) ≡ again (get_or (tallied n H P) k none) =
      tally_row_count P row x (omega arith) ∙ ap (λ (y : ℕ). record { vars = (tally_row P row).vars; count = y }) w
      ∙ ap again (sym (tallied_at n k H P h)) in
      let q : tallied n (set H (4 * k + 3) x) P ≡ tally v (tallied n H P) =
      ap (map (tally_row P)) e ∙ map_set (tally_row P) R k (set row 3 x) ∙ ap (set (map (tally_row P) R) k) t
      ∙ sym (tally_there v (tallied n H P) k r.ascends s.0 s.1) in
      let g = all_within (RowInside P) R k [] r.inside (subst (λ (i : ℕ). k < i) (sym (rows_length 4 n H)) h) in
      let a : get_or (set row 3 x) 0 0 ≡ get_or row 0 0 = get_or-set_other row 3 0 x 0 (λ z. absurd (omega arith)) in
      let b : get_or (set row 3 x) 2 0 ≡ get_or row 2 0 = get_or-set_other row 3 2 x 0 (λ z. absurd (omega arith)) in
      let d = length-set H (4 * k + 3) x in (
        record {
          room = omega arith;
          inside = subst (All (RowInside P)) (sym e) (all_set (RowInside P) R k (set row 3 x) r.inside (omega (arith, g.0), omega (arith, g.1)));
          ascends = subst Ascends (sym q) (tally_ascends v (tallied n H P) r.ascends);
          rest = drop-set-lt (4 * n) H (4 * k + 3) x j ∙ r.rest ∙ ap (λ (i : ℕ). zeros (i - 4 * n)) (sym d);
        },
        q,
      )

pub tally_once : (P : List ℕ) (at c : ℕ) → tally_row P (at ∷ 0 ∷ c ∷ 1 ∷ []) ≡ once (take c (drop (at + 2) P))
unfolding tally_row
tally_once P at c = refl

-- The variables of a monomial in the pool.
pub read_vars : (P : List ℕ) (at : ℕ) → (read_monomial (drop at P)).vars ≡ take (get_or P at 0) (drop (at + 2) P)
unfolding read_monomial
read_vars P at =
    let e : at + 0 ≡ at = omega arith in
    ap (λ (i : ℕ). take i (drop 2 (drop at P))) (get_or-drop at P 0 0 ∙ ap (λ (i : ℕ). get_or P i 0) e)
    ∙ ap (take (get_or P at 0)) (drop-drop 2 at P)
