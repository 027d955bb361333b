-- Loops over products of monomials that are summed.
use mathlib.Core.Path.{◌≡◌, refl, ◌∙◌, ap}
use mathlib.Core.List.{List, [], ◌∷◌, ◌++◌, map}
use Prim.Native.Nat.{ℕ, ◌+◌, ◌*◌, ◌≤◌}
use native.Mathlib.Omega.{arith}
use lib.ListN.{length, length-append, length-map}
use Rattle.semantics.specs.Arithmetic.{prime}
use Rattle.semantics.specs.Monomial.{Monomial, mul_monomial, products}
use Rattle.semantics.specs.Lists.{All}
use Rattle.monomial.specs.Words.{longest_of, Fits}
use Rattle.monomial.proofs.Canons.{fits_product}
use Rattle.monomial.proofs.Sizes.{longest_cons}

pub products_nil : (p : ℕ) (ys : List Monomial) → products p [] ys ≡ []
unfolding products
products_nil p ys = refl

pub products_cons : (p : ℕ) (x : Monomial) (xs ys : List Monomial) → products p (x ∷ xs) ys ≡ map (mul_monomial p x) ys ++ products p xs ys
unfolding products
products_cons p x xs ys = refl

pub products_length : (xs ys : List Monomial) → length (products prime xs ys) ≡ length xs * length ys
products_length [] ys = ap length (products_nil prime ys) ∙ omega arith
products_length (x ∷ xs) ys =
    ap length (products_cons prime x xs ys)
    ∙ length-append (map (mul_monomial prime x) ys) (products prime xs ys)
    ∙ omega (arith, length-map ys (mul_monomial prime x), products_length xs ys)

-- What is left is no longer than the bound on all: so is the next, and what is left after it.
pub short_next : (x : Monomial) (rest₀ rest : List Monomial) (bound : ℕ) → rest₀ ≡ x ∷ rest → longest_of rest₀ ≤ bound
    → (length x.vars ≤ bound) × (longest_of rest ≤ bound)
short_next x rest₀ rest bound e h = let l = ap longest_of e ∙ longest_cons x rest in (omega arith, omega arith)

pub fits_row_lem : (x : Monomial) (ys : List Monomial) → length x.vars + longest_of ys ≤ 14 → All Fits (map (mul_monomial prime x) ys)
fits_row_lem x [] h = tt
fits_row_lem x (y ∷ ys) h =
    let e = longest_cons y ys in
    (fits_product x y (omega (arith, h, e)), fits_row_lem x ys (omega (arith, h, e)))
