-- What an expansion lays out: each header stands inside its lists, and how many bytes the lists take.
use mathlib.Core.Path.{◌≡◌, sym, ap, subst, ◌∙◌}
use mathlib.Core.List.{List, [], ◌∷◌, ◌++◌, map, flat_map}
use Prim.Native.Nat.{ℕ, zero, suc, ◌+◌, ◌*◌, ◌≤◌, ◌<◌}
use native.Mathlib.Omega.{arith}
use native.Mathlib.Nat.{mul-add, mul-zero, mul-le-mul_left, le_of_mul-le-mul_left}
use lib.ListN.{length, get_or, take, drop, length-append, length-map}
use lib.Seq.{drop-drop}
use Rattle.slices.proofs.Lists.{flat_length, flat_most}
use Rattle.semantics.specs.Arithmetic.{prime}
use Rattle.semantics.specs.Group.{Item, Group, headers, variables, terms, listed}
use Rattle.semantics.specs.Sheetlist.{header_lines}
use Rattle.semantics.proofs.Grouping.{shown, listed_layout, headers_length}
use Rattle.grouping.specs.declared.Family.{Family}
use Rattle.grouping.specs.declared.Family.TheVariants.{Constraints, Counts, Fields}
use Rattle.listing.specs.Families.{letter_of, width_of, line_of, header_line, family_lines, HeadersInside}
use Rattle.listing.proofs.Heads.{some_words}
use Rattle.listing.proofs.Lengths.{header_length, t_most, u_most, w_most}

-- The number of terms of all groups.
unfoldable count : List Group → ℕ
count [] = 0
count (g ∷ gs) = length g.terms + count gs

-- A header's words, and numbers of variables and of the terms' words.
abbrev Within : (width : ℕ) (row : List ℕ) (v t : ℕ) → Type 0
Within width row v t = (get_or row 0 0 + get_or row 2 0 ≤ v) × (width * get_or row 1 0 + width * get_or row 3 0 ≤ t)

within_more : (width : ℕ) (row row' : List ℕ) (v v' t t' : ℕ) → row ≡ row' → Within width row' v' t' → v' ≤ v → t' ≤ t → Within width row v t
within_more width row row' v v' t t' e h k l = rw e (omega (arith, h.0), omega (arith, h.1))

module _ (term : Item → List ℕ) (width : ℕ) (wide : (t : Item) → length (term t) ≡ width) where
  group_terms : (g : Group) → length (flat_map term g.terms) ≡ width * length g.terms
  group_terms g = flat_length term width wide g.terms

  terms_count : (gs : List Group) → length (terms term gs) ≡ width * count gs
  unfolding terms flat_map count
  terms_count [] = sym (mul-zero width)
  terms_count (g ∷ gs) =
      length-append (flat_map term g.terms) (terms term gs)
      ∙ omega (arith, group_terms g, terms_count gs, mul-add width (length g.terms) (count gs))

  -- The header of group i, where the lists have v variables and t terms before these groups.
  row_inside : (gs : List Group) (v t i : ℕ) → i < length gs
      → Within width (take 4 (drop (4 * i) (headers v t gs))) (v + length (variables gs)) (width * t + length (terms term gs))
  unfolding headers variables terms flat_map
  row_inside [] v t i l = absurd (omega arith)
  row_inside (g ∷ gs) v t zero l = (omega (arith, length-append g.vars (variables gs)), omega (arith, length-append (flat_map term g.terms) (terms term gs), group_terms g))
  row_inside (g ∷ gs) v t (suc i) l =
      let ih = row_inside gs (v + length g.vars) (t + length g.terms) i (omega arith) in
      let more = mul-add width t (length g.terms) in
      let four : 4 * suc i ≡ 4 + 4 * i = omega arith in
      let e : drop (4 * suc i) (headers v t (g ∷ gs)) ≡ drop (4 * i) (headers (v + length g.vars) (t + length g.terms) gs) =
      ap (λ (n : ℕ). drop n (headers v t (g ∷ gs))) four ∙ sym (drop-drop (4 * i) 4 (headers v t (g ∷ gs))) in
      within_more width _ _ _ _ _ _ (ap (take 4) e) ih (omega (arith, length-append g.vars (variables gs)))
      (omega (arith, length-append (flat_map term g.terms) (terms term gs), group_terms g))

  -- What is laid out stands inside its lists.
  pub layout_inside : (gs : List Group) → HeadersInside width (headers 0 0 gs) (variables gs) (terms term gs)
  layout_inside gs = record {
    each = λ i l. let h = row_inside gs 0 0 i (omega (arith, headers_length 0 0 gs)) in
        record { vars = omega (arith, h.0); terms = omega (arith, h.1, mul-zero width) };
  }

  -- The bytes of all headers, where a term's line has at most so many.
  module _ (letter most : ℕ) (termLine : List ℕ → List ℕ) (short : (t : List ℕ) → length (termLine t) ≤ most) where
    group_most : (g : Group) → length (header_line letter g.vars ++ flat_map termLine (map term g.terms)) ≤ 2 + 9 * length g.vars + most * length g.terms
    group_most g =
        omega (
          arith,
          length-append (header_line letter g.vars) (flat_map termLine (map term g.terms)),
          header_length letter g.vars,
          flat_most termLine most short (map term g.terms),
          ap (λ (n : ℕ). most * n) (length-map g.terms term),
        )

    groups_most : (gs : List Group) → length (header_lines letter termLine (map (shown term) gs)) ≤ 2 * length gs + 9 * length (variables gs) + most * count gs
    unfolding header_lines variables flat_map count shown
    groups_most [] = omega arith
    groups_most (g ∷ gs) =
        omega (
          arith,
          groups_most gs,
          group_most g,
          length-append (header_line letter g.vars ++ flat_map termLine (map term g.terms)) (header_lines letter termLine (map (shown term) gs)),
          length-append g.vars (variables gs),
          mul-add most (length g.terms) (count gs),
        )

    pub layout_most : (gs : List Group) (h v t : ℕ) → 0 < width → length (headers 0 0 gs) ≤ 4 * h → length (variables gs) ≤ v → length (terms term gs) ≤ width * t
        → length (header_lines letter termLine (listed width (headers 0 0 gs) (variables gs) (terms term gs))) ≤ 2 * h + 9 * v + most * t
    layout_most gs h v t z a b c =
        let few : count gs ≤ t = le_of_mul-le-mul_left (subst (λ (n : ℕ). n ≤ width * t) (terms_count gs) c) z in
        rw (listed_layout term width wide gs) (omega (arith, groups_most gs, headers_length 0 0 gs, mul-le-mul_left most few))

-- The bytes of a family's term at most, and of its lists.
abbrev pub most_of : Family → ℕ
most_of Constraints = 25
most_of Counts = 25
most_of Fields = 36

line_most : (family : Family) (t : List ℕ) → length (line_of family t) ≤ most_of family
line_most Constraints t = t_most prime t
line_most Counts t = u_most prime t
line_most Fields t = w_most prime t

pub family_most : (family : Family) (term : Item → List ℕ) → ((t : Item) → length (term t) ≡ width_of family) → (gs : List Group) (h v t : ℕ)
    → length (headers 0 0 gs) ≤ 4 * h → length (variables gs) ≤ v → length (terms term gs) ≤ width_of family * t
    → length (family_lines family (headers 0 0 gs) (variables gs) (terms term gs)) ≤ 2 * h + 9 * v + most_of family * t
family_most family term wide gs h v t a b c =
    layout_most term (width_of family) wide (letter_of family) (most_of family) (line_of family) (line_most family) gs h v t (some_words family) a b c
