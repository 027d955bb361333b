-- Lines as the pieces that are written one behind the other.
use mathlib.Core.Path.{◌≡◌, refl, ap, ◌∙◌}
use mathlib.Core.List.{List, [], ◌∷◌, ◌++◌, map, flat_map, append_assoc, append-nil}
use Prim.Native.Nat.{ℕ}
use Rattle.semantics.specs.Arithmetic.{prime}
use Rattle.semantics.specs.Sheetlist.{decimal, hex_digits, signed, line, dag_text, end_text, refused_text}
use Rattle.listing.specs.Putting.{spaced}
use Rattle.listing.specs.Families.{term_line, header_line}

-- What stands behind a word: a space and the words that follow, or the end of the line.
abbrev pub behind_word : List (List ℕ) → List ℕ
behind_word [] = 10 ∷ []
behind_word (w ∷ ws) = 32 ∷ line (w ∷ ws)

line_word : (w : List ℕ) (ws : List (List ℕ)) → w ++ behind_word ws ≡ line (w ∷ ws)
unfolding line
line_word w [] = refl
line_word w (v ∷ ws) = refl

line_spaced : (text : ℕ → List ℕ) (w : List ℕ) (ns : List ℕ) (ws : List (List ℕ)) → w ++ (spaced text ns ++ behind_word ws) ≡ line (w ∷ (map text ns ++ ws))
unfolding line flat_map
line_spaced text w [] ws = line_word w ws
line_spaced text w (n ∷ ns) ws =
    ap (λ (l : List ℕ). w ++ (32 ∷ l)) (append_assoc (text n) (spaced text ns) (behind_word ws) ∙ line_spaced text (text n) ns ws)

-- A header's line, and a term's.
pub header_pieces : (letter : ℕ) (vs : List ℕ) → (letter ∷ []) ++ (spaced (hex_digits 8) vs ++ (10 ∷ [])) ≡ header_line letter vs
header_pieces letter vs =
    line_spaced (hex_digits 8) (letter ∷ []) vs [] ∙ ap (λ (ws : List (List ℕ)). line ((letter ∷ []) ∷ ws)) (append-nil (map (hex_digits 8) vs))

pub term_pieces : (letter : ℕ) (ns : List ℕ) (c : ℕ) → (letter ∷ []) ++ (spaced decimal ns ++ (32 ∷ (signed prime c ++ (10 ∷ [])))) ≡ term_line letter ns c
unfolding line
term_pieces letter ns c = line_spaced decimal (letter ∷ []) ns (signed prime c ∷ [])

-- The graph's line, a refusal, and the last line.
pub dag_pieces : (nodes constraints rotation : ℕ)
    → dag_text ++ (spaced decimal (nodes ∷ constraints ∷ rotation ∷ []) ++ (10 ∷ []))
    ≡ line (dag_text ∷ decimal nodes ∷ decimal constraints ∷ decimal rotation ∷ [])
dag_pieces nodes constraints rotation = line_spaced decimal dag_text (nodes ∷ constraints ∷ rotation ∷ []) []

pub refused_pieces : (step : List ℕ) (n place : ℕ)
    → (refused_text ++ (32 ∷ [])) ++ (step ++ (spaced decimal (n ∷ place ∷ []) ++ (10 ∷ []))) ≡ line (refused_text ∷ step ∷ decimal n ∷ decimal place ∷ [])
unfolding line
refused_pieces step n place = ap (λ (l : List ℕ). refused_text ++ (32 ∷ l)) (line_spaced decimal step (n ∷ place ∷ []) [])

pub end_pieces : end_text ++ (10 ∷ []) ≡ line (end_text ∷ [])
unfolding line
end_pieces = refl
