-- That the headers hold n rows has one proof at most.
use Rattle.std.specs.Prelude.{ℕ, ◌≡◌, List, [], ◌∷◌, true}
use Rattle.std.specs.Coded.{×_prop, Unit-prop, le_prop}
use mathlib.Core.Bool.{Bool-set}
use Rattle.std.proofs.Props.{props}
use Rattle.semantics.specs.Monomial.{BeforeVars, before_vars}
use Rattle.semantics.specs.Lists.{AscendBy, All}
use Rattle.group.specs.Grouped.{Tally, RowInside}

pub all_prop : {X : Type 0} (Q : X → Type 0) → ((x : X) → IsProp (Q x)) → (xs : List X) → IsProp (All Q xs)
all_prop Q each [] = Unit-prop
all_prop Q each (x ∷ xs) = ×_prop (each x) (all_prop Q each xs)

pub inside_prop : (pool : List ℕ) (rs : List (List ℕ)) → IsProp (All (RowInside pool) rs)
inside_prop pool = all_prop (RowInside pool) (λ row. ×_prop le_prop le_prop)

pub ascends_prop : (gs : List Tally) → IsProp (AscendBy BeforeVars (λ (g : Tally). g.vars) gs)
ascends_prop [] = Unit-prop
ascends_prop (g ∷ gs) = ×_prop (all_prop (λ (h : Tally). before_vars g.vars h.vars ≡ true) (λ h. Bool-set (before_vars g.vars h.vars) true) gs) (ascends_prop gs)

pub ruleset rows_props = (inside_prop, ascends_prop, props)
