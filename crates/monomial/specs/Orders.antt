-- The order of variable lists as an answer.
use Rattle.std.specs.Prelude.{Bool, true, false, List, ℕ}
use Rattle.std.specs.declared.cmp.Ordering.{Ordering}
use Rattle.std.specs.declared.cmp.Ordering.TheVariants.{Less, Equal, Greater}
use Rattle.semantics.specs.Monomial.{before_vars}

abbrev pub chosen : Bool → Ordering → Ordering → Ordering
chosen true x y = x
chosen false x y = y

-- Where the first list stands, seen from the second.
unfoldable pub order_of : List ℕ → List ℕ → Ordering
order_of xs ys = chosen (before_vars xs ys) Less (chosen (before_vars ys xs) Greater Equal)
