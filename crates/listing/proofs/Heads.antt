-- Headers, each with its terms.
use mathlib.Core.Path.{◌≡◌, refl, sym, ap, subst, ◌∙◌}
use mathlib.Core.List.{List, [], ◌∷◌, ◌++◌, map, flat_map, append-nil}
use Prim.Native.Nat.{ℕ, suc, ◌+◌, ◌-◌, ◌*◌, ◌/◌, ◌≤◌, ◌<◌}
use native.Mathlib.Omega.{arith}
use native.Mathlib.Nat.{mul-div_cancel_left}
use lib.ListN.{length, get_or, take, drop, length-append, length-drop}
use lib.Seq.{take_at, drop_at, drop-drop, length-take-le}
use Rattle.slices.specs.Rows.{rows}
use Rattle.slices.proofs.Rows.{rows_front}
use Rattle.semantics.specs.Group.{listed_at, listed}
use Rattle.semantics.specs.Sheetlist.{header_lines}
use Rattle.grouping.specs.declared.Family.{Family}
use Rattle.grouping.specs.declared.Family.TheVariants.{Constraints, Counts, Fields}
use Rattle.listing.specs.Families.{letter_of, width_of, line_of, term_lines, header_line, header_text, header_of, family_lines, HeaderInside, HeadersInside}
use Rattle.listing.proofs.Rows.{row_lines}

pub some_words : (family : Family) → 0 < width_of family
some_words Constraints = omega arith
some_words Counts = omega arith
some_words Fields = omega arith

-- The lines of the first m terms.
terms_front : (family : Family) (m : ℕ) (ws : List ℕ) → width_of family * m ≤ length ws
    → term_lines family (take (width_of family * m) ws) ≡ flat_map (line_of family) (rows (width_of family) m ws)
terms_front family m ws h =
    let w = width_of family in
    let count : length (take (w * m) ws) / w ≡ m =
    ap (λ (n : ℕ). n / w) (length-take-le (w * m) ws h) ∙ mul-div_cancel_left m (some_words family) in
    ap (λ (n : ℕ). flat_map (line_of family) (rows w n (take (w * m) ws))) count
    ∙ ap (λ (l : List ℕ). flat_map (line_of family) (rows w m l)) (sym (append-nil (take (w * m) ws)))
    ∙ ap (flat_map (line_of family)) (rows_front w m ws [] h)

-- The text of a header of four words, as it is written: its line, and the lines of its terms.
module _ (family : Family) (vs ts header : List ℕ) (inside : HeaderInside (width_of family) header vs ts) where
  abbrev at : ℕ → ℕ
  at j = get_or header j 0

  pub header_joins : {letter width : ℕ} → letter ≡ letter_of family → width ≡ width_of family
      → header_line letter (take (at 0 + at 2 - at 0) (drop (at 0) vs))
      ++ term_lines family (take (width * at 1 + width * at 3 - width * at 1) (drop (width * at 1) ts))
      ≡ header_of family vs ts header
  unfolding listed_at
  header_joins l w =
      let some : at 0 + at 2 - at 0 ≡ at 2 = omega arith in
      let words : width_of family * at 1 + width_of family * at 3 - width_of family * at 1 ≡ width_of family * at 3 = omega arith in
      let front = terms_front family (at 3) (drop (width_of family * at 1) ts) (omega (arith, inside.terms, length-drop (width_of family * at 1) ts)) in
      rw (l, w, some, words) (ap (λ (x : List ℕ). header_line (letter_of family) (take (at 2) (drop (at 0) vs)) ++ x) front)

-- The first header stands inside the lists, and the others do.
module _ {width : ℕ} (row left : List ℕ) {vs ts : List ℕ} (four : length row ≡ 4) (h : HeadersInside width (row ++ left) vs ts) where
  pub first_inside : HeaderInside width row vs ts
  first_inside = subst (λ (r : List ℕ). HeaderInside width r vs ts) (take_at row left 4 four) (h.each 0 (omega (arith, length-append row left)))

  pub others_inside : HeadersInside width left vs ts
  others_inside = record {
    each = λ i l. subst (λ (r : List ℕ). HeaderInside width (take 4 r) vs ts) (behind i) (h.each (suc i) (omega (arith, length-append row left)));
  }
    where
      behind : (i : ℕ) → drop (4 * suc i) (row ++ left) ≡ drop (4 * i) left
      behind i =
          let more : 4 * suc i ≡ 4 + 4 * i = omega arith in
          ap (λ (k : ℕ). drop k (row ++ left)) more ∙ sym (drop-drop (4 * i) 4 (row ++ left)) ∙ ap (drop (4 * i)) (drop_at row left 4 four)

-- All headers as rows.
flat_map_lem : {X Y : Type 0} (f : Y → List ℕ) (g : X → Y) (xs : List X) → flat_map (λ (x : X). f (g x)) xs ≡ flat_map f (map g xs)
unfolding flat_map
flat_map_lem f g [] = refl
flat_map_lem f g (x ∷ xs) = let ih = flat_map_lem f g xs in ap (λ (l : List ℕ). f (g x) ++ l) ih

pub headers_rows : (family : Family) (hs vs ts : List ℕ) → row_lines 4 (header_of family vs ts) hs ≡ family_lines family hs vs ts
unfolding header_lines listed
headers_rows family hs vs ts = flat_map_lem (header_text family) (listed_at (width_of family) vs ts) (rows 4 (length hs / 4) hs)
