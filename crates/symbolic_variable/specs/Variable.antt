-- Entries and variables of symbolic_variable.rs.
use Rattle.std.specs.Prelude.{cond, List, [], ◌∷◌, ◌++◌, ℕ, ◌+◌, leb}
use Rattle.semantics.specs.Answer.{Answer, good, refused, and_then}
use Rattle.symbolic_variable.specs.declared.Entry.{Entry}
use Rattle.symbolic_variable.specs.declared.Entry.TheVariants.{Preprocessed, Main, Public, Challenge}
use Rattle.symbolic_variable.specs.declared.SymbolicVariable.{SymbolicVariable}

-- "a entry (0 preprocessed, 1 main, 2 challenge, 3 public), b part (0 unless main), c offset (0 for 2 and 3)"
abbrev pub entry_words : Entry → List ℕ
entry_words (Preprocessed o) = 0 ∷ 0 ∷ o ∷ []
entry_words (Main p o) = 1 ∷ p ∷ o ∷ []
entry_words Challenge = 2 ∷ 0 ∷ 0 ∷ []
entry_words Public = 3 ∷ 0 ∷ 0 ∷ []

-- The entry's offset as the one number of a list; a public or a challenge entry has none.
abbrev pub entry_offset : Entry → List ℕ
entry_offset (Preprocessed o) = o ∷ []
entry_offset (Main p o) = o ∷ []
entry_offset Public = []
entry_offset Challenge = []

abbrev pub variable_of : Entry → (column : ℕ) → SymbolicVariable
variable_of e d = record { entry = e; index = d }

-- The entry's words, and "d column".
abbrev pub variable_words : SymbolicVariable → List ℕ
variable_words v = entry_words v.entry ++ (v.index ∷ [])

abbrev pub degree_multiple : Entry → ℕ
degree_multiple (Preprocessed o) = 1
degree_multiple (Main p o) = 1
degree_multiple Public = 0
degree_multiple Challenge = 0

-- An offset moved on; 11, place 0, where it is then above 2^64 − 1, the most that an entry holds.
unfoldable pub offset_moved : (offset by : ℕ) → Answer ℕ
offset_moved o k = cond (leb (o + k) 18446744073709551615) (good (o + k)) (refused 11 0)

-- The Rust: "Advance the internal offset of the entry by the given `offset`"; public and challenge entries have none.
abbrev pub entry_rotated : Entry → ℕ → Answer Entry
entry_rotated (Preprocessed o) k = and_then (offset_moved o k) (λ m. good (Preprocessed m))
entry_rotated (Main p o) k = and_then (offset_moved o k) (λ m. good (Main p m))
entry_rotated Public k = good Public
entry_rotated Challenge k = good Challenge

-- The column stays.
abbrev pub variable_rotated : SymbolicVariable → ℕ → Answer SymbolicVariable
variable_rotated v k = and_then (entry_rotated v.entry k) (λ e. good (variable_of e v.index))
