-- The program `sheetlist`: from the bytes read to the bytes printed (01, "Checked examples").
use Rattle.std.specs.Prelude.{◌≡◌, cond, ℕ, zero, suc, ◌+◌, ◌/◌, ◌%◌, eqb, leb, ltb, length, get_or, take, ℤ, pos, negsuc}
use mathlib.Core.List.{List, [], ◌∷◌, ◌++◌, map, flat_map}
use Rattle.semantics.specs.Arithmetic.{signed_of}
use Rattle.semantics.specs.Call.{Outcome, reader_call, builder_call, max_rotation_call, constraint_call, interaction_call, handed_back}
use Rattle.semantics.specs.Group.{Listed, listed}

-- A number in decimal; all that is printed has at most ten digits.
unfoldable pub digits : (most : ℕ) → ℕ → List ℕ
digits zero n = []
digits (suc most) n = let front : List ℕ = digits most (n / 10) in cond (ltb n 10) ((48 + n) ∷ []) (front ++ ((48 + n % 10) ∷ []))

unfoldable pub decimal : ℕ → List ℕ
decimal n = digits 10 n

-- "in hex": eight digits.
unfoldable pub hex_digit : ℕ → ℕ
hex_digit d = cond (ltb d 10) (48 + d) (87 + d)

unfoldable pub hex_digits : (count : ℕ) → ℕ → List ℕ
hex_digits zero n = []
hex_digits (suc count) n = hex_digits count (n / 16) ++ (hex_digit (n % 16) ∷ [])

-- A signed number in decimal.
unfoldable pub integer : ℤ → List ℕ
integer (pos n) = decimal n
integer (negsuc n) = 45 ∷ decimal (suc n)

unfoldable pub signed : (p : ℕ) → ℕ → List ℕ
signed p c = integer (signed_of p c)

-- Words parted by spaces, and the end of the line.
unfoldable pub line : List (List ℕ) → List ℕ
line [] = 10 ∷ []
line (w ∷ []) = w ++ (10 ∷ [])
line (w ∷ v ∷ ws) = w ++ (32 ∷ line (v ∷ ws))

-- "dag", "end", "refused", and the steps "read", "dag", "cons", "inter".
abbrev pub dag_text : List ℕ
dag_text = 100 ∷ 97 ∷ 103 ∷ []

abbrev pub end_text : List ℕ
end_text = 101 ∷ 110 ∷ 100 ∷ []

abbrev pub refused_text : List ℕ
refused_text = 114 ∷ 101 ∷ 102 ∷ 117 ∷ 115 ∷ 101 ∷ 100 ∷ []

abbrev pub read_text : List ℕ
read_text = 114 ∷ 101 ∷ 97 ∷ 100 ∷ []

abbrev pub cons_text : List ℕ
cons_text = 99 ∷ 111 ∷ 110 ∷ 115 ∷ []

abbrev pub inter_text : List ℕ
inter_text = 105 ∷ 110 ∷ 116 ∷ 101 ∷ 114 ∷ []

-- "`t`: index, coefficient; `u`: interaction, coefficient; `w`: interaction, field, coefficient": of a term's words.
unfoldable pub t_line : (p : ℕ) → List ℕ → List ℕ
t_line p t = line ((116 ∷ []) ∷ decimal (get_or t 0 0) ∷ signed p (get_or t 1 0) ∷ [])

unfoldable pub u_line : (p : ℕ) → List ℕ → List ℕ
u_line p t = line ((117 ∷ []) ∷ decimal (get_or t 1 0) ∷ signed p (get_or t 0 0) ∷ [])

unfoldable pub w_line : (p : ℕ) → List ℕ → List ℕ
w_line p t = line ((119 ∷ []) ∷ decimal (get_or t 1 0) ∷ decimal (get_or t 2 0) ∷ signed p (get_or t 0 0) ∷ [])

-- "`m`, `n`, `d`: variables in hex of a constraint, numerator, denominator header", each header with its terms.
unfoldable pub header_lines : (letter : ℕ) → (List ℕ → List ℕ) → List Listed → List ℕ
header_lines letter termLine hs =
    flat_map (λ (h : Listed). line ((letter ∷ []) ∷ map (hex_digits 8) h.vars) ++ flat_map termLine h.terms) hs

-- "A refusal ends the output there with `refused`, the step .., number, place"; else what comes next.
unfoldable pub step : (name : List ℕ) → Outcome → List ℕ → List ℕ
step name o rest =
    cond (eqb o.reply.number 0) rest
    (line (refused_text ∷ name ∷ decimal o.reply.number ∷ decimal o.reply.place ∷ []))

-- "reads at most 4,096 bytes": how many it takes, and how many it asks for, one more, by which it sees a longer input.
abbrev pub most_taken : ℕ
most_taken = 4096

abbrev pub most_read : ℕ
most_read = 4097

-- "(more: 1), with a pool of 4,096 words, constraint outputs of 1,024 words each, interaction outputs of 512
-- each. It builds the graph, then expands the graph."
module _ (p : ℕ) where
  unfoldable pub interaction_lines : Outcome → List ℕ
  interaction_lines o =
      header_lines 110 (u_line p) (listed 3 (handed_back 2 o 0) (handed_back 2 o 1) (handed_back 2 o 2))
      ++ (header_lines 100 (w_line p) (listed 3 (handed_back 2 o 3) (handed_back 2 o 4) (handed_back 2 o 5)) ++ line (end_text ∷ []))

  -- The step `inter`.
  abbrev pub interaction_step : (graph : List ℕ) → List ℕ
  interaction_step graph =
      let i : Outcome = interaction_call p graph (4096 ∷ 4096 ∷ 512 ∷ 512 ∷ 512 ∷ 512 ∷ 512 ∷ 512 ∷ []) in
      step inter_text i (interaction_lines i)

  unfoldable pub constraint_lines : (graph : List ℕ) → Outcome → List ℕ
  constraint_lines graph o =
      header_lines 109 (t_line p) (listed 2 (handed_back 2 o 0) (handed_back 2 o 1) (handed_back 2 o 2)) ++ interaction_step graph

  -- The step `cons`, and what comes after it.
  abbrev pub constraint_step : (graph : List ℕ) → List ℕ
  constraint_step graph =
      let c : Outcome = constraint_call p graph (4096 ∷ 4096 ∷ 1024 ∷ 1024 ∷ 1024 ∷ []) in
      step cons_text c (constraint_lines graph c)

  -- "`dag`: nodes, constraints, rotation."
  unfoldable pub graph_lines : (graph : List ℕ) → List ℕ
  graph_lines graph =
      let m : Outcome = max_rotation_call p graph in
      step dag_text m
      (line (dag_text ∷ decimal (get_or graph 1 0) ∷ decimal (get_or graph 2 0) ∷ decimal (get_or m.reply.numbers 0 0) ∷ [])
      ++ constraint_step graph)

  unfoldable pub sheet_lines : (sheet : List ℕ) → List ℕ
  sheet_lines sheet =
      let b : Outcome = builder_call p sheet (1016 ∷ 1016 ∷ []) in
      step dag_text b (graph_lines (handed_back 1 b 0))

  unfoldable pub sheetlist : (bytes : List ℕ) → List ℕ
  sheetlist bytes =
      let r : Outcome = reader_call bytes (1016 ∷ []) in
      cond (leb (length bytes) most_taken) (step read_text r (sheet_lines (handed_back 0 r 0)))
      (line (refused_text ∷ read_text ∷ decimal 1 ∷ decimal 0 ∷ []))

-- What is read of an input is enough to list it.
abbrev pub ReadsEnough : Type 0
ReadsEnough = (p : ℕ) (input : List ℕ) → sheetlist p (take most_read input) ≡ sheetlist p input
