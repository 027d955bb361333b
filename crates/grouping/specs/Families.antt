-- The families of roots as a sheet's words name them: what counting their lists and placing their terms asks and does.
use Rattle.std.specs.Prelude.{◌≡◌, Result, Ok, Err, List, [], ◌∷◌, map, ℕ, ◌+◌, ◌*◌, ◌≤◌, ◌<◌, length, take}
use Rattle.semantics.specs.Sheet as sheets
use Rattle.semantics.specs.Sheet.{Sheet}
use Rattle.semantics.specs.Check.{prime_of}
use Rattle.semantics.specs.Monomial.{list_at}
use Rattle.semantics.specs.Group.{Root, labelled, constraint_roots, count_roots, field_roots, Item, items, Group, groups, headers, variables, terms, layout}
use Rattle.semantics.specs.Call.{first_short}
use Rattle.semantics.specs.Lists.{All}
use Rattle.records.specs.declared.interactions.Part.{Part}
use Rattle.records.specs.declared.interactions.Part.TheVariants.{Count, Fields}
use Rattle.records.specs.Access.{records_of}
use Rattle.records.specs.Named.{part_of}
use Rattle.monomial.specs.Words.{Stored}
use Rattle.grouping.specs.declared.Lengths.{Lengths}
use Rattle.grouping.specs.declared.Short.{Short}
use Rattle.grouping.specs.declared.Short.TheVariants.{Headers, Variables, Terms}
use Rattle.grouping.specs.declared.Family.{Family}
use Rattle.grouping.specs.declared.Family.TheVariants as fam
use Rattle.grouping.specs.declared.Family.TheVariants.{Constraints, Counts}
use Rattle.grouping.specs.declared.families.Numbering.{Numbering}
use Rattle.grouping.specs.declared.families.Numbering.TheVariants.{ByIndex, ByField}
use Rattle.group.specs.declared.place.Label.{Label}
use Rattle.group.specs.declared.place.Label.TheVariants as label
use Rattle.group.specs.declared.place.Form.{Form}
use Rattle.group.specs.declared.place.Form.TheVariants.{Constraint, Interaction}
use Rattle.group.specs.declared.Groups.{Groups}
use Rattle.group.specs.Grouped.{Tally, tallied_total, list_of, InPool, term_width, index_at, field_at, Placing}
use Rattle.group.specs.Groups.{tallies, MayPlace}

-- The roots of a family, and the form of its terms.
abbrev pub roots_of : Family → Sheet → List Root
roots_of Constraints s = constraint_roots s
roots_of Counts s = count_roots s
roots_of fam.Fields s = field_roots s

abbrev pub form_of : Family → Form
form_of Constraints = Constraint
form_of Counts = Interaction
form_of fam.Fields = Interaction

-- The records of roots.
unfoldable pub nodes_of : List Root → List ℕ
nodes_of rs = map (λ (r : Root). r.node) rs

-- What counting the lists of these records asks.
pub record ToTally (g : Groups) (references : List ℕ) : Type 0 where
  pub lists : All (InPool g.pool.now) references
  pub small : tallied_total (tallies g) + 256 * length references ≤ 4294967295

-- The label of name j, the form of its terms, and the roots of some names from name j on.
abbrev pub label_as : Numbering → (j : ℕ) → Label
label_as ByIndex j = label.Constraint j
label_as (ByField i) j = label.Interaction i j

abbrev pub form_as : Numbering → Form
form_as ByIndex = Constraint
form_as (ByField i) = Interaction

abbrev pub root_as : Numbering → (j c : ℕ) → Root
root_as k j c = record { node = c; index = index_at (label_as k j); field = field_at (label_as k j) }

abbrev pub named_roots : Numbering → (j : ℕ) → List ℕ → List Root
named_roots k j names = labelled (λ (j c : ℕ). root_as k j c ∷ []) j names

-- The roots of a part of interactions that are numbered from i.
abbrev pub part_roots : Part → (i : ℕ) → List sheets.Interaction → List Root
part_roots part i xs = labelled (λ (k : ℕ) (x : sheets.Interaction). named_roots (ByField k) 0 (part_of part x)) i xs

-- The family of a part.
abbrev pub family_of : Part → Family
family_of Count = Counts
family_of Fields = fam.Fields

-- The groups count few enough terms for a word to hold where each goes.
abbrev pub FewTerms : Groups → Type 0
FewTerms g = tallied_total (tallies g) ≤ 16777216

-- The slices are ready for terms of either width, where there is room for all.
abbrev pub StartsPlacing : (gs : List Tally) (g : Groups) (terms : List ℕ) (room : ℕ) → Type 0
StartsPlacing gs g terms room =
    (form : Form) → term_width form * tallied_total gs ≤ room → Placing form gs g.n g.headers.now g.pool.now terms []

-- What placing the terms of these roots asks.
pub record ToPlaceRoots (form : Form) (g : Groups) (terms : List ℕ) (roots : List Root) : Type 0 where
  pub to_place : MayPlace form g terms (items (list_of g.pool.now) roots)
  pub lists : All (λ (r : Root). InPool g.pool.now r.node) roots

-- What grouping a family of a checked sheet asks: the finished list of every root in the pool.
pub record Grouping (ws pool : List ℕ) (roots : List Root) : Type 0 where
  pub lists : All (λ (r : Root). Stored pool r.node (list_at (prime_of ws) (records_of ws) r.node)) roots

-- The groups of a family of a sheet's roots.
abbrev pub groups_of : (ws : List ℕ) → List Root → List Group
groups_of ws roots = groups (list_at (prime_of ws) (records_of ws)) roots

-- The number of a slice among the three.
abbrev pub short_number : Short → ℕ
short_number Headers = 1
short_number Variables = 2
short_number Terms = 3

-- How many words n rows take with v variables and t terms, and that there is room for them; or which slice is too short.
abbrev pub Measured : (n width v t variables terms : ℕ) → Result Lengths Short → Type 0
Measured n width v t variables terms (Ok c) =
    (c.headers ≡ 4 * n) × (c.variables ≡ v) × (c.terms ≡ width * t) × (v ≤ variables) × (width * t ≤ terms)
Measured n width v t variables terms (Err Headers) = ⊥
Measured n width v t variables terms (Err Variables) = variables < v
Measured n width v t variables terms (Err Terms) = (v ≤ variables) × (terms < width * t)

-- Words in front of a slice.
abbrev pub Front : (words slice : List ℕ) → Type 0
Front words slice = (length words ≤ length slice) × (take (length words) slice ≡ words)

-- The lists of a family stand in front of the three slices; or the first slice that is too short (01: "17: a finished list exceeds its
-- output slice. Place: the first such slice").
abbrev pub Laid : (term : Item → List ℕ) → List Group → (hs vs ts : List ℕ) → Result Lengths Short → Type 0
Laid term gs hs vs ts (Ok c) =
    (first_short 1 (layout term gs) (length hs ∷ length vs ∷ length ts ∷ []) ≡ 0)
    × Front (headers 0 0 gs) hs × Front (variables gs) vs × Front (terms term gs) ts
    × (c.headers ≡ length (headers 0 0 gs)) × (c.variables ≡ length (variables gs)) × (c.terms ≡ length (terms term gs))
Laid term gs hs vs ts (Err short) = first_short 1 (layout term gs) (length hs ∷ length vs ∷ length ts ∷ []) ≡ short_number short
