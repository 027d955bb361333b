-- What making a record's list comes to.
use Rattle.std.specs.Prelude.{◌≡◌, List, ℕ, Result, Ok, Err}
use Rattle.semantics.specs.Arithmetic.{prime}
use Rattle.semantics.specs.Monomial.{Monomial, combine}
use Rattle.semantics.specs.Expand.{work_fault}
use Rattle.answers.specs.declared.Reason.{Reason}
use Rattle.answers.specs.Replies.{number_of}

-- The list, or why it was not made; `fault` is the number of that, and 0 where there is a list.
abbrev pub Makes : Result (List Monomial) Reason → (fault : ℕ) (list : List Monomial) → Type 0
Makes (Ok l) fault list = (fault ≡ 0) × (l ≡ list)
Makes (Err r) fault list = fault ≡ number_of r

-- "12 and 13 look at the working list before combining. Then, except for leaves and Neg, equal variable lists are summed and zero sums dropped."
abbrev pub MakesCombined : Result (List Monomial) Reason → (working : List Monomial) → Type 0
MakesCombined u working = Makes u (work_fault working) (combine prime working)
