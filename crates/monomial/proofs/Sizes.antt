-- The longest of a list; the sizes and the words of its front.
use mathlib.Core.Path.{◌≡◌, refl, sym, ◌∙◌, ap}
use mathlib.Core.List.{List, [], ◌∷◌, ◌++◌, append_assoc, append-nil}
use Prim.Native.Nat.{ℕ, ◌+◌, ◌*◌, ◌-◌, ◌≤◌, ◌<◌, max}
use native.Mathlib.Numerals.{add-one}
use native.Mathlib.Omega.{arith}
use lib.ListN.{length, get_or, take, drop, take-append-drop}
use lib.Seq.{take-suc, take_at, drop_at, drop-drop}
use Rattle.semantics.specs.Monomial.{Monomial}
use Rattle.semantics.specs.Expand.{list_size}
use Rattle.semantics.specs.Lists.{All}
use Rattle.monomial.specs.Words.{monomial_words, list_words, read_monomial, list_in, longest_of, Fits, ListFits}
use Rattle.monomial.specs.Places.{one, vars_at}
use Rattle.monomial.proofs.ListLaws.{vars_in, list_zero, first_front, first_rest, first_cons, words_nil, words_cons, words_append, words_length, size_nil, size_cons, size_append}

pub longest_cons : (m : Monomial) (ms : List Monomial) → longest_of (m ∷ ms) ≡ max (length m.vars) (longest_of ms)
unfolding longest_of
longest_cons m ms = refl

pub longest_nil : longest_of [] ≡ 0
unfolding longest_of
longest_nil = refl

pub longest_few : (ms : List Monomial) → All Fits ms → longest_of ms ≤ 14
longest_few [] k = omega (arith, longest_nil)
longest_few (m ∷ ms) k = omega (arith, longest_cons m ms, k.0.few, longest_few ms k.1)

-- The most variables so far, where n monomials are left.
pub record Longest (words : List ℕ) (all most at n : ℕ) : Type 0 where
  pub fits : ListFits words at n
  pub most_is : max most (longest_of (list_in words at n)) ≡ all

pub longest_none : {words : List ℕ} {all at n k : ℕ} → k ≡ n → ListFits words at n → longest_of (list_in words at n) ≡ all → Longest words all 0 at k
longest_none k f e = rw k (record { fits = f; most_is = omega (arith, e) })

module _ {words : List ℕ} {all most at n : ℕ} (g : Longest words all most at n) where
  pub longest_room : (n ≡ 0 → ⊥) → at + 2 + vars_in words at ≤ length words
  longest_room h = (first_front words at n 0 h g.fits).room

  pub longest_more : (s most₁ at₁ n₁ : ℕ) → (n ≡ 0 → ⊥) → s ≡ vars_in words at → most₁ ≡ max most s → at₁ ≡ at + (2 + s) → n₁ ≡ n - 1
      → Longest words all most₁ at₁ n₁
  longest_more s most₁ at₁ n₁ h e m a k =
      let rest = list_in words (at + (2 + s)) (n - 1) in
      let next = ap longest_of (first_cons words at n s h e) ∙ longest_cons (read_monomial (drop at words)) rest in
      rw (a, k) (record { fits = first_rest words at n s h e g.fits; most_is = omega (arith, g.most_is, next, e, m) })

  pub longest_done : n ≡ 0 → most ≡ all
  longest_done e = omega (arith, g.most_is, ap (λ (k : ℕ). longest_of (list_in words at k)) e, ap longest_of (list_zero (drop at words)), longest_nil)

pub size_small : (ms : List Monomial) → All Fits ms → list_size ms ≤ 16 * length ms
size_small [] k = omega (arith, size_nil)
size_small (m ∷ ms) k = omega (arith, size_cons m ms, k.0.few, size_small ms k.1)

-- The first k monomials, and one more.
module _ (l : List Monomial) (k : ℕ) (h : k < length l) where
  front_more : take (k + 1) l ≡ take k l ++ (get_or l k one ∷ [])
  front_more = ap (λ (n : ℕ). take n l) (add-one k) ∙ take-suc l k one h

  pub size_more : list_size (take (k + 1) l) ≡ list_size (take k l) + 2 + length (vars_at l k)
  size_more = omega (arith, ap list_size front_more ∙ size_append (take k l) (get_or l k one ∷ []), size_cons (get_or l k one) [], size_nil)

  words_more : list_words (take (k + 1) l) ≡ list_words (take k l) ++ monomial_words (get_or l k one)
  words_more =
      ap list_words front_more ∙ words_append (take k l) (get_or l k one ∷ [])
      ∙ ap (λ (x : List ℕ). list_words (take k l) ++ x)
      (words_cons (get_or l k one) [] ∙ ap (λ (x : List ℕ). monomial_words (get_or l k one) ++ x) words_nil ∙ append-nil (monomial_words (get_or l k one)))

-- A front of the list is no larger than the whole.
pub size_front : (l : List Monomial) (k : ℕ) → list_size (take k l) ≤ list_size l
size_front l k = omega (arith, ap list_size (take-append-drop k l), size_append (take k l) (drop k l))

-- The first k monomials written.
pub record Written (l : List Monomial) (out₀ out : List ℕ) (at k : ℕ) : Type 0 where
  pub length_is : length out ≡ length out₀
  pub at_is : at ≡ list_size (take k l)
  pub out_is : out ≡ list_words (take k l) ++ drop at out₀

module _ (l : List Monomial) (out₀ : List ℕ) where
  pub written_none : Written l out₀ out₀ 0 0
  written_none = record { length_is = refl; at_is = sym size_nil; out_is = rw words_nil }

  module _ (out : List ℕ) (at k : ℕ) (g : Written l out₀ out at k) (h : k < length l) where
    pub written_room : list_size l ≤ length out₀ → at + 2 + length (vars_at l k) ≤ length out
    written_room b = omega (arith, g.length_is, g.at_is, size_more l k h, size_front l (k + 1))

    pub written_more : (vs : List ℕ) (coef : ℕ) → vs ≡ vars_at l k → coef ≡ (get_or l k one).coef → (out₁ : List ℕ) → length out₁ ≡ length out
        → out₁ ≡ take at out ++ ((length vs ∷ coef ∷ vs) ++ drop (at + 2 + length vs) out) → Written l out₀ out₁ (at + (2 + length vs)) (k + 1)
    unfolding monomial_words
    written_more vs coef ev ec out₁ e q = record {
      length_is = e ∙ g.length_is;
      at_is = omega (arith, ap length ev, g.at_is, size_more l k h);
      out_is = all;
    }
      where
        W : List ℕ
        W = list_words (take k l)

        M : List ℕ
        M = monomial_words (get_or l k one)

        len : length W ≡ at
        len = words_length (take k l) ∙ sym g.at_is

        s : ℕ
        s = 2 + length vs

        n : at + 2 + length vs ≡ at + s
        n = omega arith

        back : drop (at + 2 + length vs) out ≡ drop (at + s) out₀
        back =
            ap (λ (i : ℕ). drop i out) n ∙ sym (drop-drop s at out) ∙ ap (drop s) (ap (drop at) g.out_is ∙ drop_at W (drop at out₀) at len)
            ∙ drop-drop s at out₀

        all : out₁ ≡ list_words (take (k + 1) l) ++ drop (at + s) out₀
        all =
            q ∙ (λ i. (ap (take at) g.out_is ∙ take_at W (drop at out₀) at len) i ++ ((length (ev i) ∷ ec i ∷ ev i) ++ back i))
            ∙ sym (append_assoc W M (drop (at + s) out₀)) ∙ ap (λ (x : List ℕ). x ++ drop (at + s) out₀) (sym (words_more l k h))
