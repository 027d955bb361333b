-- Loops over a list that is read: its monomials negated one by one, and summed one by one.
use mathlib.Core.Path.{◌≡◌, refl, sym, ◌∙◌, ap}
use mathlib.Core.List.{List, [], ◌∷◌, ◌++◌, map, append-nil, append_assoc}
use Prim.Native.Nat.{◌+◌, ◌≤◌}
use native.Mathlib.Omega.{arith}
use lib.Dec.{eqb}
use lib.ListN.{length, length-append}
use Rattle.semantics.specs.Arithmetic.{prime}
use Rattle.semantics.specs.Monomial.{Asc, Monomial, neg_monomial, keep, plus, insert_monomial}
use Rattle.semantics.proofs.Basics.{by_test}
use Rattle.semantics.proofs.Combining.{by_order}
use Rattle.monomial.specs.declared.Sign.{Sign}
use Rattle.monomial.specs.declared.Sign.TheVariants.{Plus, Minus}
use Rattle.monomial.specs.Signs.{with_sign, signed}
use Rattle.monomial.specs.Words.{Fits, insert_all}
use Rattle.monomial.proofs.Canons.{fits_negative, sum_nil, sum_cons, sum_append, asc_sum}

-- The negatives so far, and those of what is left, are those of all.
pub record Negating (before all rest now : List Monomial) : Type 0 where
  pub room : length now + length rest ≤ 256
  pub all_is : now ++ map (neg_monomial prime) rest ≡ before ++ map (neg_monomial prime) all

module _ (before all : List Monomial) where
  pub negating_none : (rest : List Monomial) → rest ≡ all → length before + length all ≤ 256 → Negating before all rest before
  negating_none rest e h = record { room = omega (arith, ap length e); all_is = rw e }

  pub negating_more : (rest₀ rest now now₁ : List Monomial) (x y : Monomial) → Negating before all rest₀ now → rest₀ ≡ x ∷ rest → y ≡ neg_monomial prime x
      → now₁ ≡ now ++ (y ∷ []) → Negating before all rest now₁
  negating_more rest₀ rest now now₁ x y g e f q = record {
    room = omega (arith, g.room, ap length e, ap length q ∙ length-append now (y ∷ []));
    all_is =
        ap (λ (z : List Monomial). z ++ map (neg_monomial prime) rest) q ∙ append_assoc now (y ∷ []) (map (neg_monomial prime) rest)
        ∙ ap (λ (z : Monomial). now ++ (z ∷ map (neg_monomial prime) rest)) f
        ∙ ap (λ (z : List Monomial). now ++ map (neg_monomial prime) z) (sym e) ∙ g.all_is;
  }

  pub negating_done : (rest now : List Monomial) → Negating before all rest now → rest ≡ [] → now ≡ before ++ map (neg_monomial prime) all
  negating_done rest now g e = sym (append-nil now) ∙ ap (λ (z : List Monomial). now ++ map (neg_monomial prime) z) (sym e) ∙ g.all_is

-- A list with a sign, monomial by monomial.
pub signed_cons : (s : Sign) (m : Monomial) (ms : List Monomial) → signed s (m ∷ ms) ≡ with_sign s m ∷ signed s ms
signed_cons Plus m ms = refl
signed_cons Minus m ms = refl

pub signed_nil : (s : Sign) → signed s [] ≡ []
signed_nil Plus = refl
signed_nil Minus = refl

pub fits_with_sign : (s : Sign) (m : Monomial) → Fits m → Fits (with_sign s m)
fits_with_sign Plus m h = h
fits_with_sign Minus m h = fits_negative m h

pub signed_length : (s : Sign) (ms : List Monomial) → length (signed s ms) ≡ length ms
signed_length s [] = ap length (signed_nil s)
signed_length s (m ∷ ms) = omega (arith, ap length (signed_cons s m ms), signed_length s ms)

-- Summing makes a list longer by one monomial at most.
keep_length : (m : Monomial) (ms : List Monomial) → length (keep m ms) ≤ length ms + 1
unfolding keep
keep_length m ms = by_test (λ (l : List Monomial). length l ≤ length ms + 1) (eqb m.coef 0) (λ e. omega arith) (λ e. omega arith)

insert_length : (m : Monomial) (ms : List Monomial) → length (insert_monomial prime m ms) ≤ length ms + 1
insert_length m [] = unfold insert_monomial in (keep_length m [])
insert_length m (x ∷ t) =
    let ih = insert_length m t in
    by_order (λ (l : List Monomial). length l ≤ length (x ∷ t) + 1) prime m x t (λ e. keep_length m (x ∷ t)) (λ e. omega (arith, ih))
    (λ e. omega (arith, keep_length (plus prime m x) t))

pub sum_length : (ms acc : List Monomial) → length (insert_all ms acc) ≤ length acc + length ms
sum_length [] acc = omega (arith, ap length (sum_nil acc))
sum_length (m ∷ ms) acc = omega (arith, ap length (sum_cons m ms acc), sum_length ms (insert_monomial prime m acc), insert_length m acc)

-- Summed so far, and what is left to be summed.
pub record Adding (before all rest now : List Monomial) : Type 0 where
  pub room : length now + length rest ≤ 256
  pub ascends : Asc now
  pub all_is : insert_all rest now ≡ insert_all all before

module _ (before all : List Monomial) where
  pub adding_none : (rest : List Monomial) → rest ≡ all → length before + length all ≤ 256 → Asc before → Adding before all rest before
  adding_none rest e h a = record { room = omega (arith, ap length e); ascends = a; all_is = rw e }

  pub adding_next : (rest₀ ms rest now now₁ : List Monomial) → Adding before all rest₀ now → rest₀ ≡ ms ++ rest → now₁ ≡ insert_all ms now
      → Adding before all rest now₁
  adding_next rest₀ ms rest now now₁ g e q = record {
    room = omega (arith, g.room, ap length e ∙ length-append ms rest, ap length q, sum_length ms now);
    ascends = rw q (asc_sum ms now g.ascends);
    all_is = ap (insert_all rest) q ∙ sym (sum_append ms rest now) ∙ ap (λ (z : List Monomial). insert_all z now) (sym e) ∙ g.all_is;
  }

  pub adding_more : (rest₀ rest now now₁ : List Monomial) (x : Monomial) → Adding before all rest₀ now → rest₀ ≡ x ∷ rest → now₁ ≡ insert_monomial prime x now
      → Adding before all rest now₁
  adding_more rest₀ rest now now₁ x g e q =
      adding_next rest₀ (x ∷ []) rest now now₁ g e (q ∙ sym (sum_cons x [] now ∙ sum_nil (insert_monomial prime x now)))

  pub adding_done : (rest now : List Monomial) → Adding before all rest now → rest ≡ [] → now ≡ insert_all all before
  adding_done rest now g e = sym (sum_nil now) ∙ ap (λ (z : List Monomial). insert_all z now) (sym e) ∙ g.all_is
