-- Monomial headers: their offsets, and the four words of each.
use Rattle.std.specs.Prelude.{List, [], ◌∷◌, ◌++◌, ℕ, zero, suc, ◌+◌, ◌*◌, get_or, drop}
use Rattle.header_offsets.specs.declared.MonomialHeader.{MonomialHeader}

abbrev pub num_vars_of : MonomialHeader → ℕ
num_vars_of h = h.num_vars

abbrev pub num_terms_of : MonomialHeader → ℕ
num_terms_of h = h.num_terms

-- The total of a number over some headers.
unfoldable pub column_total : (number : MonomialHeader → ℕ) → List MonomialHeader → ℕ
column_total number [] = 0
column_total number (h ∷ hs) = number h + column_total number hs

-- A header at the offsets v and t.
abbrev pub offset_at : (v t : ℕ) → MonomialHeader → MonomialHeader
offset_at v t h = record { var_offset = v; term_offset = t; num_vars = num_vars_of h; num_terms = num_terms_of h }

-- "each offset is the total of the matching number over the headers before it"; v and t are the totals before the first one here.
unfoldable pub with_offsets : (v t : ℕ) → List MonomialHeader → List MonomialHeader
with_offsets v t [] = []
with_offsets v t (h ∷ hs) = offset_at v t h ∷ with_offsets (v + num_vars_of h) (t + num_terms_of h) hs

-- A header of four zeros.
abbrev pub no_header : MonomialHeader
no_header = record { var_offset = 0; term_offset = 0; num_vars = 0; num_terms = 0 }

-- "Headers are four words: variable offset, term offset, number of variables, number of terms": the header that words begin with, the
-- first n headers, and the words of headers.
unfoldable pub header_in : (words : List ℕ) → MonomialHeader
header_in ws = record { var_offset = get_or ws 0 0; term_offset = get_or ws 1 0; num_vars = get_or ws 2 0; num_terms = get_or ws 3 0 }

unfoldable pub headers_in : (n : ℕ) (words : List ℕ) → List MonomialHeader
headers_in zero ws = []
headers_in (suc n) ws = header_in ws ∷ headers_in n (drop 4 ws)

unfoldable pub header_words : List MonomialHeader → List ℕ
header_words [] = []
header_words (h ∷ hs) = h.var_offset ∷ h.term_offset ∷ num_vars_of h ∷ num_terms_of h ∷ header_words hs

-- The words with the offsets of the first n headers.
unfoldable pub filled_words : (n : ℕ) (words : List ℕ) → List ℕ
filled_words n ws = header_words (with_offsets 0 0 (headers_in n ws)) ++ drop (4 * n) ws
