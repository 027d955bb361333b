-- Lists of monomials as words: what is written is read back, one monomial after another.
use mathlib.Core.Path.{◌≡◌, refl, sym, ◌∙◌, ap, subst}
use mathlib.Core.Bool.{Bool, true, false}
use mathlib.Core.List.{List, [], ◌∷◌, ◌++◌, flat_map, append_assoc}
use Prim.Native.Nat.{ℕ, zero, suc, ◌+◌, ◌*◌, ◌-◌, ◌≤◌, min}
use lib.Dec.{leb}
use borrow.Author.Tests.{leb-true, leb-false}
use native.Mathlib.Omega.{arith}
use lib.ListN.{drop_of_length-le, length, get_or, take, drop, length-append, length-take, length-drop, take-append-drop}
use lib.Seq.{take-append_seam, drop_at, drop-drop}
use Rattle.slices.proofs.Lists.{flat_append, get_or_front}
use Rattle.semantics.specs.Monomial.{Monomial}
use Rattle.semantics.specs.Expand.{list_size}
use Rattle.semantics.specs.Lists.{All}
use Rattle.monomial.specs.Words.{monomial_words, list_words, read_monomial, read_list, list_in, Fits, ListFits, Stored}

pub words_nil : list_words [] ≡ []
unfolding list_words flat_map
words_nil = refl

pub words_cons : (m : Monomial) (ms : List Monomial) → list_words (m ∷ ms) ≡ monomial_words m ++ list_words ms
unfolding list_words flat_map
words_cons m ms = refl

pub words_append : (ms ns : List Monomial) → list_words (ms ++ ns) ≡ list_words ms ++ list_words ns
unfolding list_words
words_append = flat_append monomial_words

pub size_cons : (m : Monomial) (ms : List Monomial) → list_size (m ∷ ms) ≡ 2 + length m.vars + list_size ms
unfolding list_size
size_cons m ms = refl

pub size_nil : list_size [] ≡ 0
unfolding list_size
size_nil = refl

pub size_append : (ms ns : List Monomial) → list_size (ms ++ ns) ≡ list_size ms + list_size ns
unfolding list_size
size_append [] ns = omega arith
size_append (m ∷ ms) ns = omega (arith, size_append ms ns)

-- Each monomial takes two words or more.
pub size_large : (ms : List Monomial) → 2 * length ms ≤ list_size ms
size_large [] = omega (arith, size_nil)
size_large (m ∷ ms) = omega (arith, size_cons m ms, size_large ms)

pub one_length : (m : Monomial) → length (monomial_words m) ≡ 2 + length m.vars
unfolding monomial_words
one_length m = omega arith

pub words_length : (ms : List Monomial) → length (list_words ms) ≡ list_size ms
words_length [] = unfold list_size in (rw words_nil)
words_length (m ∷ t) =
    let ih = words_length t in
    rw (words_cons, size_cons) (omega (arith, length-append (monomial_words m) (list_words t), one_length m, ih))

-- A monomial is read back, and what stands behind it is left.
pub read_front : (m : Monomial) (rest : List ℕ) → read_monomial (monomial_words m ++ rest) ≡ m
unfolding monomial_words read_monomial
read_front m rest = λ i. record { vars = take-append_seam m.vars rest i; coef = m.coef }

pub front_count : (m : Monomial) (rest : List ℕ) → get_or (monomial_words m ++ rest) 0 0 ≡ length m.vars
unfolding monomial_words
front_count m rest = refl

pub list_zero : (ws : List ℕ) → read_list 0 ws ≡ []
unfolding read_list
list_zero ws = refl

pub list_suc : (n : ℕ) (ws : List ℕ) → read_list (suc n) ws ≡ read_monomial ws ∷ read_list n (drop (2 + get_or ws 0 0) ws)
unfolding read_list
list_suc n ws = refl

pub read_words : (ms : List Monomial) (rest : List ℕ) → read_list (length ms) (list_words ms ++ rest) ≡ ms
read_words [] rest = list_zero (list_words [] ++ rest)
read_words (m ∷ t) rest =
    let ih = read_words t rest in
    let e : list_words (m ∷ t) ++ rest ≡ monomial_words m ++ (list_words t ++ rest) = rw words_cons (append_assoc (monomial_words m) (list_words t) rest) in
    let d : drop (2 + get_or (monomial_words m ++ (list_words t ++ rest)) 0 0) (monomial_words m ++ (list_words t ++ rest)) ≡ list_words t ++ rest =
    rw (front_count m (list_words t ++ rest)) (drop_at (monomial_words m) (list_words t ++ rest) (2 + length m.vars) (one_length m)) in
    ap (read_list (suc (length t))) e ∙ list_suc (length t) (monomial_words m ++ (list_words t ++ rest))
    ∙ rw (read_front m (list_words t ++ rest), d, ih)

-- A list whose words stand at `at`.
module _ (words : List ℕ) (at : ℕ) (ms : List Monomial) (e : take (list_size ms) (drop at words) ≡ list_words ms) where
  pub list_there : list_in words at (length ms) ≡ ms
  list_there =
      ap (read_list (length ms)) (sym (take-append-drop (list_size ms) (drop at words)) ∙ ap (λ (l : List ℕ). l ++ drop (list_size ms) (drop at words)) e)
      ∙ read_words ms (drop (list_size ms) (drop at words))

  pub list_fits : at + list_size ms ≤ length words → All Fits ms → ListFits words at (length ms)
  list_fits h f = record {
    inside = rw list_there h;
    fit = rw list_there f;
  }

pub list_fits_at : (words : List ℕ) (at n : ℕ) (ms : List Monomial) → take (list_size ms) (drop at words) ≡ list_words ms → n ≡ length ms
    → at + list_size ms ≤ length words → All Fits ms → ListFits words at n × (list_in words at n ≡ ms)
list_fits_at words at n ms e k h f = rw k (list_fits words at ms e h f, list_there words at ms e)

pub stored_list : (pool : List ℕ) (i : ℕ) (ms : List Monomial) → Stored pool i ms → list_in pool (get_or pool (2 * i) 0) (get_or pool (2 * i + 1) 0) ≡ ms
stored_list pool i ms s = (list_fits_at pool (get_or pool (2 * i) 0) (get_or pool (2 * i + 1) 0) ms s.words_are s.count_is s.inside s.fit).1

-- The first monomial of a list in the words.
pub list_in_suc : (words : List ℕ) (at n : ℕ) → list_in words at (suc n) ≡ read_monomial (drop at words) ∷ list_in words (at + 2 + get_or words at 0) n
list_in_suc words at n =
    let k : at + (2 + get_or (drop at words) 0 0) ≡ at + 2 + get_or words at 0 = omega (arith, get_or_front words at) in
    let d : drop (2 + get_or (drop at words) 0 0) (drop at words) ≡ drop (at + 2 + get_or words at 0) words =
    drop-drop (2 + get_or (drop at words) 0 0) at words ∙ ap (λ (k : ℕ). drop k words) k in
    list_suc n (drop at words) ∙ rw d

-- How many variables of the monomial that stands at `at` are inside the words.
abbrev pub vars_in : List ℕ → ℕ → ℕ
vars_in words at = length (read_monomial (drop at words)).vars

pub vars_in_is : (words : List ℕ) (at : ℕ) → vars_in words at ≡ min (get_or words at 0) (length words - (at + 2))
unfolding read_monomial
vars_in_is words at =
    omega (arith, length-take (get_or (drop at words) 0 0) (drop 2 (drop at words)), length-drop 2 (drop at words), length-drop at words, get_or_front words at)

-- Past the end nothing is left, however far.
drop_min : (l : List ℕ) (a b : ℕ) → drop (a + b) l ≡ drop (a + min b (length l - a)) l
drop_min l a b = go (leb b (length l - a)) refl
  where
    go : (t : Bool) → leb b (length l - a) ≡ t → drop (a + b) l ≡ drop (a + min b (length l - a)) l
    go true e =
        let h = leb-true b (length l - a) e in
        let m : a + b ≡ a + min b (length l - a) = omega arith in
        ap (λ (k : ℕ). drop k l) m
    go false e =
        let h = leb-false b (length l - a) e in
        let x : length l ≤ a + b = omega arith in
        let y : length l ≤ a + min b (length l - a) = omega arith in
        drop_of_length-le l x ∙ sym (drop_of_length-le l y)

pub list_in_next : (words : List ℕ) (at n : ℕ) → list_in words at (suc n) ≡ read_monomial (drop at words) ∷ list_in words (at + 2 + vars_in words at) n
list_in_next words at n =
    let d : drop (at + 2 + get_or words at 0) words ≡ drop (at + 2 + vars_in words at) words =
    drop_min words (at + 2) (get_or words at 0) ∙ ap (λ (k : ℕ). drop (at + 2 + k) words) (sym (vars_in_is words at)) in
    list_in_suc words at n ∙ ap (λ (l : List ℕ). read_monomial (drop at words) ∷ read_list n l) d

pub record Front (words : List ℕ) (at n : ℕ) : Type 0 where
  pub short : vars_in words at ≤ 14
  pub room : at + 2 + vars_in words at ≤ length words
  pub one : Fits (read_monomial (drop at words))
  pub rest : ListFits words (at + 2 + vars_in words at) n

pub front_of : (words : List ℕ) (at n : ℕ) → ListFits words at (suc n) → Front words at n
front_of words at n h = record {
  short = fits.0.few;
  room = omega (arith, inside);
  one = fits.0;
  rest = record { inside = omega (arith, inside); fit = fits.1 };
}
  where
    ms : List Monomial
    ms = list_in words (at + 2 + vars_in words at) n

    fits : All Fits (read_monomial (drop at words) ∷ ms)
    fits = subst (All Fits) (list_in_next words at n) h.fit

    inside : at + (2 + vars_in words at + list_size ms) ≤ length words
    inside = omega (arith, h.inside, ap list_size (list_in_next words at n) ∙ size_cons (read_monomial (drop at words)) ms)

-- The first of n monomials is read; s is the number of its variables.
module _ (words : List ℕ) (at n s : ℕ) (h : n ≡ 0 → ⊥) where
  one_more : n ≡ suc (n - 1)
  one_more = omega arith

  pub first_front : ListFits words at n → Front words at (n - 1)
  first_front l = front_of words at (n - 1) (subst (ListFits words at) one_more l)

  module _ (e : s ≡ vars_in words at) where
    behind : at + 2 + vars_in words at ≡ at + (2 + s)
    behind = omega (arith, e)

    pub first_rest : ListFits words at n → ListFits words (at + (2 + s)) (n - 1)
    first_rest l = subst (λ (k : ℕ). ListFits words k (n - 1)) behind (first_front l).rest

    pub first_cons : list_in words at n ≡ read_monomial (drop at words) ∷ list_in words (at + (2 + s)) (n - 1)
    first_cons =
        ap (list_in words at) one_more ∙ list_in_next words at (n - 1)
        ∙ ap (λ (k : ℕ). read_monomial (drop at words) ∷ list_in words k (n - 1)) behind

pub list_length : (n : ℕ) (ws : List ℕ) → length (read_list n ws) ≡ n
unfolding read_list
list_length zero ws = refl
list_length (suc n) ws = ap suc (list_length n (drop (2 + get_or ws 0 0) ws))
