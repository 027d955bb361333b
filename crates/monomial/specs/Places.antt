-- Where a monomial stands in a list, or where it is to be put.
use Rattle.std.specs.Prelude.{◌≡◌, true, List, [], ℕ, ◌≤◌, ◌<◌, length, get_or, Result, MatchResult}
use Rattle.semantics.specs.Monomial.{Monomial, before_vars}

-- The monomial 1, where a place beyond the list is asked for.
abbrev pub one : Monomial
one = record { vars = []; coef = 1 }

abbrev pub vars_at : List Monomial → ℕ → List ℕ
vars_at ms i = (get_or ms i one).vars

-- The first k stand before x; those from k on after it.
abbrev pub FirstBefore : Monomial → List Monomial → ℕ → Type 0
FirstBefore x ms k = (i : ℕ) → i < k → before_vars (vars_at ms i) x.vars ≡ true

abbrev pub RestAfter : Monomial → List Monomial → ℕ → Type 0
RestAfter x ms k = (i : ℕ) → k ≤ i → i < length ms → before_vars x.vars (vars_at ms i) ≡ true

-- A search's answer: `Ok` where the variables stand, `Err` where they are to be put.
abbrev pub Stands : Monomial → List Monomial → Result ℕ ℕ → Type 0
Stands x ms r = MatchResult r (λ k. (k < length ms) × (vars_at ms k ≡ x.vars)) (λ k. (k ≤ length ms) × FirstBefore x ms k × RestAfter x ms k)
