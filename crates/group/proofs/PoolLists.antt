-- The lists of the pool, monomial by monomial: where they stand, and what is counted of them.
use mathlib.Core.Path.{◌≡◌, refl, sym, ◌∙◌, ap, subst}
use mathlib.Core.Bool.{Bool, true, false, cond}
use mathlib.Core.List.{List, [], ◌∷◌, ◌++◌, append_assoc}
use Prim.Native.Nat.{ℕ, suc, ◌+◌, ◌*◌, ◌≤◌}
use native.Mathlib.Omega.{arith}
use lib.Dec.{eqb}
use lib.ListN.{length, get_or, take, drop, take-append-drop}
use lib.Seq.{get_or-drop, drop-drop, take_at, drop_at}
use Rattle.slices.proofs.Lists.{get_or_front}
use Rattle.semantics.specs.Monomial.{Monomial}
use Rattle.semantics.specs.Expand.{list_size}
use Rattle.semantics.specs.Group.{Root, items_of}
use Rattle.semantics.specs.Lists.{All}
use Rattle.semantics.proofs.Basics.{by_test}
use Rattle.monomial.specs.Words.{monomial_words, list_words, read_monomial, Fits, Stored}
use Rattle.monomial.proofs.ListLaws.{words_cons, size_cons, one_length, words_length, front_count, stored_list}
use Rattle.group.specs.Grouped.{non_zero, Standing, list_of, InPool}
use Rattle.group.proofs.Tallies.{vars_of}

pub read_coef : (P : List ℕ) (at : ℕ) → (read_monomial (drop at P)).coef ≡ get_or P (at + 1) 0
unfolding read_monomial
read_coef P at = get_or-drop at P 1 0

pub non_zero_length : (ms : List Monomial) → length (non_zero ms) ≤ length ms
unfolding non_zero
non_zero_length [] = omega arith
non_zero_length (m ∷ ms) =
    let ih = non_zero_length ms in
    by_test (λ (l : List (List ℕ)). length l ≤ suc (length ms)) (eqb m.coef 0) (λ e. omega arith) (λ e. omega arith)

pub items_vars : (r : Root) (ms : List Monomial) → vars_of (items_of r ms) ≡ non_zero ms
unfolding items_of non_zero
items_vars r [] = refl
items_vars r (m ∷ ms) = go (eqb m.coef 0) (items_vars r ms)
  where
    go : (b : Bool) → vars_of (items_of r ms) ≡ non_zero ms
        → vars_of (cond b (items_of r ms) (record { vars = m.vars; index = r.index; field = r.field; coef = m.coef } ∷ items_of r ms))
        ≡ cond b (non_zero ms) (m.vars ∷ non_zero ms)
    go true ih = ih
    go false ih = ap (λ (l : List (List ℕ)). m.vars ∷ l) ih

-- A stored list, taken apart: its first monomial, and the rest.
module _ (m : Monomial) (ms : List Monomial) (P : List ℕ) (at : ℕ)
    (w : take (list_size (m ∷ ms)) (drop at P) ≡ list_words (m ∷ ms)) (i : at + list_size (m ∷ ms) ≤ length P) where
  behind : List ℕ
  behind = drop (list_size (m ∷ ms)) (drop at P)

  whole : drop at P ≡ monomial_words m ++ (list_words ms ++ behind)
  unfolding behind
  whole =
      sym (take-append-drop (list_size (m ∷ ms)) (drop at P)) ∙ ap (λ (l : List ℕ). l ++ behind) (w ∙ words_cons m ms)
      ∙ append_assoc (monomial_words m) (list_words ms) behind

  first_is : get_or P at 0 ≡ length m.vars
  first_is = sym (get_or_front P at) ∙ ap (λ (l : List ℕ). get_or l 0 0) whole ∙ front_count m (list_words ms ++ behind)

  rest_is : take (list_size ms) (drop (at + 2 + get_or P at 0) P) ≡ list_words ms
  rest_is =
      let n : at + 2 + get_or P at 0 ≡ at + (2 + length m.vars) = omega (arith, first_is) in
      ap (λ (k : ℕ). take (list_size ms) (drop k P)) n
      ∙ ap (take (list_size ms))
      (sym (drop-drop (2 + length m.vars) at P) ∙ ap (drop (2 + length m.vars)) whole
      ∙ drop_at (monomial_words m) (list_words ms ++ behind) (2 + length m.vars) (one_length m))
      ∙ take_at (list_words ms) behind (list_size ms) (words_length ms)

  inside_is : at + 2 + get_or P at 0 + list_size ms ≤ length P
  inside_is = omega (arith, first_is, size_cons m ms)

-- A stored list stands in the pool.
list_standing : (l : List Monomial) (P : List ℕ) (at : ℕ) → All Fits l → take (list_size l) (drop at P) ≡ list_words l → at + list_size l ≤ length P
    → at + list_size l ≤ 4294967295 → Standing (length l) P at
list_standing [] P at f w i b = tt
list_standing (m ∷ ms) P at f w i b =
    let e = first_is m ms P at w i in
    let s = size_cons m ms in
    let few = f.0.few in
    let j = inside_is m ms P at w i in
    (omega arith, omega arith, omega arith, list_standing ms P (at + 2 + get_or P at 0) f.1 (rest_is m ms P at w i) j (omega arith))

-- The list of a record stands in the pool.
pub stands : (P : List ℕ) (i : ℕ) → InPool P i → Standing (get_or P (2 * i + 1) 0) P (get_or P (2 * i) 0)
stands P i s =
    subst (λ (m : ℕ). Standing m P (get_or P (2 * i) 0)) (sym s.count_is)
    (list_standing (list_of P i) P (get_or P (2 * i) 0) s.fit s.words_are s.inside s.low)

-- The list that is read from the pool stands there, where any list does.
pub stored_in : (P : List ℕ) (i : ℕ) (l : List Monomial) → Stored P i l → InPool P i
stored_in P i l s = subst (Stored P i) (sym (stored_list P i l s)) s
