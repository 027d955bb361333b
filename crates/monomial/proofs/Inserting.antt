-- A monomial summed into a list that ascends, and into the words of the work list.
use mathlib.Core.Path.{◌≡◌, refl, sym, ap, subst, ◌∙◌}
use mathlib.Core.Bool.{true, false}
use mathlib.Core.List.{List, [], ◌∷◌, ◌++◌, map, map-append}
use Prim.Native.Nat.{ℕ, zero, suc, ◌+◌, ◌*◌, ◌-◌, ◌≤◌, ◌<◌}
use native.Mathlib.Numerals.{add-one}
use native.Mathlib.Omega.{arith}
use lib.Dec.{eqb}
use lib.ListN.{drop_of_length-le, length, get_or, take, drop, set, length-append, length-drop, take-append-drop}
use lib.Seq.{take_all, take-take, take-append-le, drop_at, length-take-le, set_split}
use borrow.Author.Tests.{eq-eqb, ne_eqb}
use Rattle.slices.specs.Rows.{rows}
use Rattle.slices.proofs.Lists.{map_set, map_take, map_drop, map_insert}
use Rattle.slices.proofs.Rows.{rows_at, rows_set, rows_insert, rows_remove}
use Rattle.semantics.specs.Arithmetic.{prime, add_m}
use Rattle.semantics.specs.Monomial.{Asc, Monomial, before_vars, keep, plus, insert_monomial}
use Rattle.semantics.proofs.Basics.{cond_true, cond_false, by_test}
use Rattle.semantics.proofs.Order.{before_vars_irrefl, before_vars_asym}
use Rattle.semantics.specs.Lists.{All}
use Rattle.semantics.proofs.Lists.{all_front, all_drop}
use Rattle.semantics.proofs.Sorting.{all_append, all_within}
use Rattle.monomial.specs.declared.Monomial as declared
use Rattle.monomial.specs.Words.{nums, monomial_of, read_monomial, held, Fits}
use Rattle.monomial.specs.Places.{one, vars_at, FirstBefore, RestAfter}
use Rattle.monomial.proofs.Readings.{first_vars}
use Rattle.monomial.proofs.Rows.{held_length, held_at}
use Rattle.monomial.proofs.Canons.{fits_plus}
use Rattle.monomial.proofs.Searches.{ascending}

module _ (p : ℕ) (m : Monomial) where
  insert_here : (x : Monomial) (xs : List Monomial) → before_vars m.vars x.vars ≡ true → insert_monomial p m (x ∷ xs) ≡ keep m (x ∷ xs)
  unfolding insert_monomial
  insert_here x xs h = cond_true (before_vars m.vars x.vars) _ _ h

  insert_later : (x : Monomial) (xs : List Monomial) → before_vars x.vars m.vars ≡ true → insert_monomial p m (x ∷ xs) ≡ x ∷ insert_monomial p m xs
  unfolding insert_monomial
  insert_later x xs h =
      cond_false (before_vars m.vars x.vars) _ _ (before_vars_asym x.vars m.vars h) ∙ cond_true (before_vars x.vars m.vars) _ _ h

  insert_sum : (x : Monomial) (xs : List Monomial) → x.vars ≡ m.vars → insert_monomial p m (x ∷ xs) ≡ keep (plus p m x) xs
  unfolding insert_monomial
  insert_sum x xs e =
      let f : before_vars m.vars x.vars ≡ false = ap (before_vars m.vars) e ∙ before_vars_irrefl m.vars in
      let g : before_vars x.vars m.vars ≡ false = ap (λ (v : List ℕ). before_vars v m.vars) e ∙ before_vars_irrefl m.vars in
      cond_false (before_vars m.vars x.vars) _ _ f ∙ cond_false (before_vars x.vars m.vars) _ _ g

  -- Where none has its variables.
  pub insert_gap : (ms : List Monomial) (k : ℕ) → k ≤ length ms → FirstBefore m ms k → RestAfter m ms k → insert_monomial p m ms ≡ take k ms ++ keep m (drop k ms)
  insert_gap [] zero h f g = unfold insert_monomial in refl
  insert_gap [] (suc k) h f g = absurd (omega arith)
  insert_gap (x ∷ xs) zero h f g = insert_here x xs (g 0 (omega arith) (omega arith))
  insert_gap (x ∷ xs) (suc k) h f g =
      insert_later x xs (f 0 (omega arith))
      ∙ ap (λ (t : List Monomial). x ∷ t) (insert_gap xs k (omega arith) (λ i l. f (suc i) (omega arith)) (λ i l n. g (suc i) (omega arith) (omega arith)))

  -- Where one has.
  insert_same : (ms : List Monomial) (k : ℕ) → Asc ms → k < length ms → vars_at ms k ≡ m.vars
      → insert_monomial p m ms ≡ take k ms ++ keep (plus p m (get_or ms k one)) (drop (suc k) ms)
  insert_same [] k a h e = absurd (omega arith)
  insert_same (x ∷ xs) zero a h e = insert_sum x xs e
  insert_same (x ∷ xs) (suc k) a h e =
      insert_later x xs (subst (λ (v : List ℕ). before_vars x.vars v ≡ true) e (ascending (x ∷ xs) a 0 (suc k) (omega arith) h))
      ∙ ap (λ (t : List Monomial). x ∷ t) (insert_same xs k a.1 (omega arith) e)

  pub insert_at : (ms : List Monomial) (k : ℕ) → Asc ms → k < length ms → vars_at ms k ≡ m.vars
      → insert_monomial p m ms ≡ take k ms ++ keep (plus p m (get_or ms k one)) (drop (k + 1) ms)
  insert_at ms k a h e =
      let n : suc k ≡ k + 1 = omega arith in
      insert_same ms k a h e ∙ ap (λ (i : ℕ). take k ms ++ keep (plus p m (get_or ms k one)) (drop i ms)) n

-- Kept, unless the coefficient is 0.
pub keep_zero : (m : Monomial) (ms : List Monomial) → m.coef ≡ 0 → keep m ms ≡ ms
unfolding keep
keep_zero m ms e = cond_true (eqb m.coef 0) _ _ (eq-eqb m.coef 0 e)

pub keep_other : (m : Monomial) (ms : List Monomial) → (m.coef ≡ 0 → ⊥) → keep m ms ≡ m ∷ ms
unfolding keep
keep_other m ms e = cond_false (eqb m.coef 0) _ _ (ne_eqb m.coef 0 e)

-- The words of the work list.
read_coef : (row : List ℕ) (v : ℕ) → 2 ≤ length row → read_monomial (set row 1 v) ≡ record { vars = (read_monomial row).vars; coef = v }
unfolding read_monomial
read_coef [] v h = absurd (omega arith)
read_coef (x ∷ []) v h = absurd (omega arith)
read_coef (x ∷ y ∷ t) v h = refl

module _ (ws : List ℕ) (k count : ℕ) (l : 16 * count ≤ length ws) where
  -- A monomial put in front of slot k.
  pub held_put : k ≤ count → (n c : ℕ) (vs us ts : List ℕ) → 16 * count + 16 ≤ length ws → length us ≡ length ws → length ts ≡ length us
      → us ≡ take (16 * k + 16) ws ++ (take (16 * count - 16 * k) (drop (16 * k) ws) ++ drop (16 * count + 16) ws)
      → ts ≡ take (16 * k) us ++ ((n ∷ c ∷ vs) ++ drop (16 * k + 16) us)
      → held (count + 1) ts ≡ take k (held count ws) ++ (record { vars = take n vs; coef = c } ∷ drop k (held count ws))
  unfolding held read_monomial
  held_put h n c vs us ts r lu lt p q =
      let e : length vs ≡ 14 =
      omega (
        arith,
        lu,
        lt,
        ap length q,
        length-append (take (16 * k) us) ((n ∷ c ∷ vs) ++ drop (16 * k + 16) us),
        length-append (n ∷ c ∷ vs) (drop (16 * k + 16) us),
        length-take-le (16 * k) us (omega arith),
        length-drop (16 * k + 16) us,
      ) in
      let rest : List ℕ = drop (16 * count + 16) ws in
      let behind : List ℕ = take (16 * count - 16 * k) (drop (16 * k) ws) ++ rest in
      let z : length (take (16 * k + 16) ws) ≡ 16 * k + 16 = length-take-le (16 * k + 16) ws (omega arith) in
      let f : take (16 * k) us ≡ take (16 * k) ws =
      ap (take (16 * k)) p ∙ take-append-le (16 * k) (take (16 * k + 16) ws) _ (omega arith) ∙ take-take (16 * k) (16 * k + 16) ws (omega arith) in
      let b : drop (16 * k + 16) us ≡ behind = ap (drop (16 * k + 16)) p ∙ drop_at (take (16 * k + 16) ws) _ (16 * k + 16) z in
      ap (held (count + 1)) (q ∙ λ s. f s ++ ((n ∷ c ∷ vs) ++ b s))
      ∙ ap (map read_monomial) (rows_insert 16 count k ws (n ∷ c ∷ vs) rest h l (omega arith))
      ∙ map_insert read_monomial (rows 16 count ws) k (n ∷ c ∷ vs)

  -- Slot k taken out.
  pub held_out : k < count → (us : List ℕ) → us ≡ take (16 * k) ws ++ (take (16 * count - (16 * k + 16)) (drop (16 * k + 16) ws) ++ drop (16 * count - 16) ws)
      → held (count - 1) us ≡ take k (held count ws) ++ drop (k + 1) (held count ws)
  unfolding held
  held_out h us p =
      let R : List (List ℕ) = rows 16 count ws in
      ap (held (count - 1)) p ∙ ap (map read_monomial) (rows_remove 16 count k ws (drop (16 * count - 16) ws) h l)
      ∙ map-append read_monomial (take k R) (drop (k + 1) R) ∙ (λ t. map_take read_monomial k R t ++ map_drop read_monomial (k + 1) R t)

  -- Another coefficient in slot k.
  pub held_sum : k < count → (v : ℕ)
      → held count (set ws (16 * k + 1) v) ≡ take k (held count ws) ++ (record { vars = vars_at (held count ws) k; coef = v } ∷ drop (k + 1) (held count ws))
  unfolding held
  held_sum h v =
      let R : List (List ℕ) = rows 16 count ws in
      let row : List ℕ = get_or R k [] in
      let z : 2 ≤ length row = omega (arith, ap length (rows_at 16 count k ws h), length-take-le 16 (drop (16 * k) ws) (omega (arith, length-drop (16 * k) ws))) in
      let x : read_monomial (set row 1 v) ≡ record { vars = vars_at (held count ws) k; coef = v } =
      read_coef row v z ∙ (λ t. record { vars = ((ap read_monomial (rows_at 16 count k ws h) ∙ sym (held_at count k ws one h)) t).vars; coef = v }) in
      ap (map read_monomial) (rows_set 16 count k 1 v ws h (omega arith)) ∙ map_set read_monomial R k (set row 1 v)
      ∙ set_split (held count ws) k (read_monomial (set row 1 v)) (omega (arith, held_length count ws))
      ∙ (λ t. take k (held count ws) ++ (x t ∷ drop (sym (add-one k) t) (held count ws)))

  -- A sum, kept unless it is 0.
  module _ (p : ℕ) (m : Monomial) (h : k < count) (v : ℕ) (e : v ≡ add_m p m.coef (get_or (held count ws) k one).coef) where
    sum_is : plus p m (get_or (held count ws) k one) ≡ record { vars = vars_at (held count ws) k; coef = v }
    unfolding plus
    sum_is = λ t. record { vars = vars_at (held count ws) k; coef = sym e t }

    pub sum_out : v ≡ 0 → (us : List ℕ) → us ≡ take (16 * k) ws ++ (take (16 * count - (16 * k + 16)) (drop (16 * k + 16) ws) ++ drop (16 * count - 16) ws)
        → held (count - 1) us ≡ take k (held count ws) ++ keep (plus p m (get_or (held count ws) k one)) (drop (k + 1) (held count ws))
    sum_out z us q =
        held_out h us q
        ∙ ap (λ (r : List Monomial). take k (held count ws) ++ r)
        (sym (keep_zero (plus p m (get_or (held count ws) k one)) (drop (k + 1) (held count ws)) (ap (λ (y : Monomial). y.coef) sum_is ∙ z)))

    pub sum_kept : (v ≡ 0 → ⊥) → held count (set ws (16 * k + 1) v) ≡ take k (held count ws) ++ keep (plus p m (get_or (held count ws) k one)) (drop (k + 1) (held count ws))
    sum_kept z =
        let rest : List Monomial = drop (k + 1) (held count ws) in
        held_sum h v
        ∙ ap (λ (r : List Monomial). take k (held count ws) ++ r)
        (sym (ap (λ (y : Monomial). keep y rest) sum_is ∙ keep_other (record { vars = vars_at (held count ws) k; coef = v }) rest z))

-- A monomial by value, as its row holds it.
row_is : (m : declared.Monomial) → ◌≡◌ {A = Monomial} (record { vars = take (length (monomial_of m).vars) (nums m.vars); coef = m.coef }) (monomial_of m)
row_is m = λ i. record { vars = first_vars m (length (monomial_of m).vars) refl i; coef = m.coef }

module _ (ws : List ℕ) (k : ℕ) (m : declared.Monomial) where
  abbrev row : List ℕ
  row = length (monomial_of m).vars ∷ m.coef ∷ nums m.vars

  -- One put in front of row k, where the rows from k on are moved up.
  pub held_row : (count : ℕ) → 16 * count + 16 ≤ length ws → k ≤ count → (us ts : List ℕ) → length us ≡ length ws → length ts ≡ length us
      → us ≡ take (16 * k + 16) ws ++ (take (16 * count - 16 * k) (drop (16 * k) ws) ++ drop (16 * count + 16) ws)
      → ts ≡ take (16 * k) us ++ (row ++ drop (16 * k + 16) us)
      → held (count + 1) ts ≡ take k (held count ws) ++ (monomial_of m ∷ drop k (held count ws))
  held_row count r h us ts lu lt p q =
      held_put ws k count (omega arith) h (length (monomial_of m).vars) m.coef (nums m.vars) us ts r lu lt p q
      ∙ ap (λ (x : Monomial). take k (held count ws) ++ (x ∷ drop k (held count ws))) (row_is m)

  -- One written behind the first k.
  pub held_behind : 16 * k + 16 ≤ length ws → (ts : List ℕ) → length ts ≡ length ws → ts ≡ take (16 * k) ws ++ (row ++ drop (16 * k + 16) ws)
      → held (k + 1) ts ≡ held k ws ++ (monomial_of m ∷ [])
  held_behind r ts lt q =
      let none : 0 ≡ 16 * k - 16 * k = omega arith in
      let same = sym (take-append-drop (16 * k + 16) ws) ∙ ap (λ (n : ℕ). take (16 * k + 16) ws ++ (take n (drop (16 * k) ws) ++ drop (16 * k + 16) ws)) none in
      let e : length (held k ws) ≤ k = omega (arith, held_length k ws) in
      held_row k r (omega arith) ws ts refl lt same q ∙ (λ i. take_all k (held k ws) e i ++ (monomial_of m ∷ drop_of_length-le (held k ws) e i))

keep_fits : (x : Monomial) (xs : List Monomial) → Fits x → All Fits xs → All Fits (keep x xs)
unfolding keep
keep_fits x xs g a = by_test (All Fits) (eqb x.coef 0) (λ e. a) (λ e. (g, a))

-- What holds of all holds of all once one is put in front of place k, or kept in the place of k.
module _ (ms : List Monomial) (k : ℕ) (h : All Fits ms) where
  front_fits : All Fits (take k ms)
  front_fits = all_front Fits (take k ms) (drop k ms) (rw (take-append-drop k ms) h)

  pub put_fits : (m : Monomial) → Fits m → All Fits (take k ms ++ (m ∷ drop k ms))
  put_fits m f = all_append Fits (take k ms) (m ∷ drop k ms) front_fits (f, all_drop Fits k ms h)

  pub sum_fits : (m : Monomial) → Fits m → k < length ms → All Fits (take k ms ++ keep (plus prime m (get_or ms k one)) (drop (k + 1) ms))
  sum_fits m f l =
      all_append Fits (take k ms) _ front_fits
      (keep_fits (plus prime m (get_or ms k one)) (drop (k + 1) ms) (fits_plus m (get_or ms k one) f (all_within Fits ms k one h l)) (all_drop Fits (k + 1) ms h))
