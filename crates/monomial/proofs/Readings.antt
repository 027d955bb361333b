-- A monomial by value, and one read from the words, which may end within its variables.
use mathlib.Core.Path.{◌≡◌, refl, sym, ◌∙◌, ap}
use mathlib.Core.List.{List, [], ◌∷◌}
use Prim.Native.Nat.{ℕ, zero, suc, ◌+◌}
use lib.ListN.{length, get_or, take, drop}
use lib.Seq.{drop-drop, get_or-drop}
use Rattle.semantics.specs.Monomial.{Monomial}
use Rattle.monomial.specs.declared.Monomial as declared
use Rattle.monomial.specs.Words.{nums, monomial_of, read_monomial}
use Rattle.monomial.proofs.ListLaws.{vars_in}

take_taken : (n : ℕ) (l : List ℕ) → take (length (take n l)) l ≡ take n l
take_taken zero l = refl
take_taken (suc n) [] = refl
take_taken (suc n) (x ∷ l) = ap (λ (t : List ℕ). x ∷ t) (take_taken n l)

-- The variables of a monomial by value, which may be told to have more than it has places for.
pub first_vars : (m : declared.Monomial) (n : ℕ) → n ≡ length (monomial_of m).vars → take n (nums m.vars) ≡ (monomial_of m).vars
first_vars m n e = ap (λ (k : ℕ). take k (nums m.vars)) e ∙ take_taken m.count (nums m.vars)

pub read_in : (words vars : List ℕ) (at n : ℕ) → n ≡ vars_in words at → take n vars ≡ take n (drop (at + 2) words)
    → ◌≡◌ {A = Monomial} (record { vars = take n vars; coef = get_or words (at + 1) 0 }) (read_monomial (drop at words))
unfolding read_monomial
read_in words vars at n e h =
    let D : List ℕ = drop at words in
    let v : take n vars ≡ take (get_or D 0 0) (drop 2 D) =
    h ∙ ap (take n) (sym (drop-drop 2 at words)) ∙ ap (λ (k : ℕ). take k (drop 2 D)) e ∙ take_taken (get_or D 0 0) (drop 2 D) in
    let c : get_or words (at + 1) 0 ≡ get_or D 1 0 = sym (get_or-drop at words 1 0) in
    λ i. record { vars = v i; coef = c i }
