-- The records that interactions name.
use Rattle.std.specs.Prelude.{ℕ}
use mathlib.Core.List.{List, [], ◌∷◌, ◌++◌, flat_map}
use Rattle.semantics.specs.Sheet.{Interaction}
use Rattle.records.specs.declared.interactions.Part.{Part}
use Rattle.records.specs.declared.interactions.Part.TheVariants.{Count, Fields}

-- A part of an interaction: its count, or the fields of its message; and of several, one after the other.
abbrev pub part_of : Part → Interaction → List ℕ
part_of Count x = x.count ∷ []
part_of Fields x = x.message

abbrev pub parts_of : Part → List Interaction → List ℕ
parts_of part xs = flat_map (part_of part) xs

-- All that an interaction names, its fields before its count; and that several do.
abbrev pub references_of : Interaction → List ℕ
references_of x = x.message ++ (x.count ∷ [])

abbrev pub references : List Interaction → List ℕ
references xs = flat_map references_of xs
