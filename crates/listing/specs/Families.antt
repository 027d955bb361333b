-- The three families of lists: of constraints, of counts (numerators), of fields (denominators) (01, "Checked examples").
use mathlib.Core.List.{List, [], ◌∷◌, ◌++◌, map, flat_map}
use Rattle.std.specs.Prelude.{ℕ, ◌+◌, ◌*◌, ◌/◌, ◌≤◌, ◌<◌, length, get_or, take, drop}
use Rattle.semantics.specs.Arithmetic.{prime}
use Rattle.semantics.specs.Group.{Listed, listed_at, listed}
use Rattle.semantics.specs.Sheetlist.{decimal, hex_digits, signed, line, t_line, u_line, w_line, header_lines}
use Rattle.slices.specs.Rows.{rows}
use Rattle.group.specs.Grouped.{term_width}
use Rattle.grouping.specs.declared.Family.{Family}
use Rattle.grouping.specs.declared.Family.TheVariants.{Constraints, Counts, Fields}
use Rattle.grouping.specs.Families.{form_of}

-- "`m`, `n`, `d`": the letter of a header.
abbrev pub letter_of : Family → ℕ
letter_of Constraints = 109
letter_of Counts = 110
letter_of Fields = 100

-- A term's number of words, and its line.
abbrev pub width_of : Family → ℕ
width_of family = term_width (form_of family)

abbrev pub line_of : Family → List ℕ → List ℕ
line_of Constraints = t_line prime
line_of Counts = u_line prime
line_of Fields = w_line prime

-- The line of a letter, numbers and a coefficient.
abbrev pub term_line : (letter : ℕ) → List ℕ → (coefficient : ℕ) → List ℕ
term_line letter numbers coefficient = line ((letter ∷ []) ∷ (map decimal numbers ++ (signed prime coefficient ∷ [])))

-- The lines of terms, from their words.
abbrev pub term_lines : Family → List ℕ → List ℕ
term_lines family ts = flat_map (line_of family) (rows (width_of family) (length ts / width_of family) ts)

-- A header's line, and a header with its terms.
abbrev pub header_line : (letter : ℕ) → List ℕ → List ℕ
header_line letter vs = line ((letter ∷ []) ∷ map (hex_digits 8) vs)

abbrev pub header_text : Family → Listed → List ℕ
header_text family h = header_line (letter_of family) h.vars ++ flat_map (line_of family) h.terms

-- The text of the header of some four words.
abbrev pub header_of : Family → (vs ts : List ℕ) → (header : List ℕ) → List ℕ
header_of family vs ts header = header_text family (listed_at (width_of family) vs ts header)

-- All headers of a family, from its three lists of words.
abbrev pub family_lines : Family → (hs vs ts : List ℕ) → List ℕ
family_lines family hs vs ts = header_lines (letter_of family) (line_of family) (listed (width_of family) hs vs ts)

-- A header's variables and terms stand inside the lists; those of each header do.
pub record HeaderInside (width : ℕ) (header vs ts : List ℕ) : Type 0 where
  pub vars : get_or header 0 0 + get_or header 2 0 ≤ length vs
  pub terms : width * get_or header 1 0 + width * get_or header 3 0 ≤ length ts

pub record HeadersInside (width : ℕ) (hs vs ts : List ℕ) : Type 0 where
  pub each : (i : ℕ) → i < length hs / 4 → HeaderInside width (take 4 (drop (4 * i) hs)) vs ts
