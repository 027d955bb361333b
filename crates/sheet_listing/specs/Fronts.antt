-- Lists that stand in front of their slices, as an expansion writes them.
use Rattle.std.specs.Prelude.{List, ℕ, ◌≤◌, length, take}
use Rattle.grouping.specs.declared.Family.{Family}
use Rattle.listing.specs.Families.{width_of, family_lines, HeadersInside}
use Rattle.grouping.specs.declared.Lengths.{Lengths}

-- What a family prints from the front of its three slices.
abbrev pub front_lines : Family → Lengths → (hs vs ts : List ℕ) → List ℕ
front_lines family n hs vs ts = family_lines family (take n.headers hs) (take n.variables vs) (take n.terms ts)

-- The lists stand inside their slices, and each header's variables and terms inside the lists.
pub record Fronts (family : Family) (n : Lengths) (hs vs ts : List ℕ) : Type 0 where
  pub headers_fit : n.headers ≤ length hs
  pub variables_fit : n.variables ≤ length vs
  pub terms_fit : n.terms ≤ length ts
  pub inside : HeadersInside (width_of family) (take n.headers hs) (take n.variables vs) (take n.terms ts)
