-- Where a sheet's records, constraints and interactions stand in its words (01, "The sheet").
use Rattle.std.specs.Prelude.{◌≡◌, ℕ, zero, suc, ◌+◌, ◌≤◌, length, get_or, drop}
use mathlib.Core.List.{List, [], ◌∷◌, flat_map}
use Rattle.semantics.specs.Answer.{good}
use Rattle.semantics.specs.Sheet as semantics
use Rattle.semantics.specs.Sheet.{record_of, place}
use Rattle.semantics.specs.Check.{prime_of, read_sheet, check}
use Rattle.records.specs.declared.Record.{Record}

-- Five words as a record.
abbrev pub five_words : Record → semantics.Record
five_words r = record_of r.kind r.a r.b r.c r.d

-- The five words of record i.
abbrev pub node_in : List ℕ → ℕ → semantics.Record
node_in ws i = record_of (get_or ws (place 5 i) 0) (get_or ws (place 5 i + 1) 0) (get_or ws (place 5 i + 2) 0) (get_or ws (place 5 i + 3) 0) (get_or ws (place 5 i + 4) 0)

-- The words are a sheet; its records.
abbrev pub IsSheet : List ℕ → Type 0
IsSheet ws = check (prime_of ws) ws ≡ good (read_sheet ws)

abbrev pub records_of : List ℕ → List semantics.Record
records_of ws = (read_sheet ws).records

-- Where the constraints start, and the interactions.
abbrev pub constraints_at : List ℕ → ℕ
constraints_at ws = place 5 (length (records_of ws))

abbrev pub interactions_at : List ℕ → ℕ
interactions_at ws = constraints_at ws + length (read_sheet ws).constraints

-- So many interactions stand in front of the words, each whole.
abbrev pub InteractionsStand : (n : ℕ) → List ℕ → Type 0
InteractionsStand zero ws = Unit {0}
InteractionsStand (suc n) ws = (4 + get_or ws 3 0 ≤ length ws) × InteractionsStand n (drop (4 + get_or ws 3 0) ws)

-- The words in front of an interaction's fields, with that count.
abbrev pub front_words : semantics.Interaction → (count : ℕ) → List ℕ
front_words x count = x.bus ∷ x.weight ∷ count ∷ length x.message ∷ []

-- The records that interactions name: the counts, and the fields.
abbrev pub counts_of : List semantics.Interaction → List ℕ
counts_of xs = flat_map (λ (x : semantics.Interaction). x.count ∷ []) xs

abbrev pub fields_of : List semantics.Interaction → List ℕ
fields_of xs = flat_map (λ (x : semantics.Interaction). x.message) xs
