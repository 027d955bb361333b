-- Grouping the monomials of roots by their variables, and the lists as words (01: "Zero coefficients are dropped before grouping ..").
use Rattle.std.specs.Prelude.{Bool, cond, ℕ, suc, ◌+◌, ◌*◌, ◌/◌, eqb, length, get_or, take, drop}
use mathlib.Core.List.{List, [], ◌∷◌, ◌++◌, map, flat_map}
use Rattle.slices.specs.Rows.{rows}
use Rattle.semantics.specs.Sheet.{Interaction, Sheet}
use Rattle.semantics.specs.Monomial.{Monomial, before, before_vars, sort}

-- A record to expand, and what its terms carry: a constraint's place; an interaction; an interaction and a field.
pub record Root : Type 0 where
  pub node : ℕ
  pub index : ℕ
  pub field : ℕ

-- The roots of the elements of a list, numbered from n.
unfoldable pub labelled : {X : Type 0} → (ℕ → X → List Root) → (n : ℕ) → List X → List Root
labelled f n [] = []
labelled f n (x ∷ xs) = f n x ++ labelled f (suc n) xs

unfoldable pub constraint_roots : Sheet → List Root
constraint_roots s = labelled (λ j (c : ℕ). record { node = c; index = j; field = 0 } ∷ []) 0 s.constraints

unfoldable pub count_roots : Sheet → List Root
count_roots s = labelled (λ i (x : Interaction). record { node = x.count; index = i; field = 0 } ∷ []) 0 s.interactions

unfoldable pub field_roots : Sheet → List Root
field_roots s =
    labelled (λ i (x : Interaction). labelled (λ j (c : ℕ). record { node = c; index = i; field = j } ∷ []) 0 x.message) 0
    s.interactions

-- A monomial of a root.
pub record Item : Type 0 where
  pub vars : List ℕ
  pub index : ℕ
  pub field : ℕ
  pub coef : ℕ

unfoldable pub items_of : Root → List Monomial → List Item
items_of r [] = []
items_of r (m ∷ ms) =
    cond (eqb m.coef 0) (items_of r ms)
    (record { vars = m.vars; index = r.index; field = r.field; coef = m.coef } ∷ items_of r ms)

unfoldable pub items : (ℕ → List Monomial) → List Root → List Item
items list roots = flat_map (λ (r : Root). items_of r (list r.node)) roots

-- Headers ascend by length, then number by number; "Terms ascend by constraint, or by interaction, then field."
unfoldable pub key : Item → List ℕ
key t = length t.vars ∷ (t.vars ++ (t.index ∷ t.field ∷ t.coef ∷ []))

unfoldable pub later : Item → Item → Bool
later t u = before (key u) (key t)

-- One variable list and its terms.
pub record Group : Type 0 where
  pub vars : List ℕ
  pub terms : List Item

-- An item in front of sorted groups: into the first where its variables are the same, else as a new one.
unfoldable pub push : Item → List Group → List Group
push t [] = record { vars = t.vars; terms = t ∷ [] } ∷ []
push t (g ∷ gs) =
    cond (before_vars t.vars g.vars) (record { vars = t.vars; terms = t ∷ [] } ∷ g ∷ gs)
    (cond (before_vars g.vars t.vars) (record { vars = t.vars; terms = t ∷ [] } ∷ g ∷ gs)
    (record { vars = g.vars; terms = t ∷ g.terms } ∷ gs))

unfoldable pub split : List Item → List Group
split [] = []
split (t ∷ ts) = push t (split ts)

unfoldable pub groups : (ℕ → List Monomial) → List Root → List Group
groups list roots = split (sort later (items list roots))

-- "Constraint terms: constraint index, coefficient. Interaction terms: coefficient, interaction, field (0 in numerators)."
unfoldable pub constraint_term : Item → List ℕ
constraint_term t = t.index ∷ t.coef ∷ []

unfoldable pub interaction_term : Item → List ℕ
interaction_term t = t.coef ∷ t.index ∷ t.field ∷ []

-- "Headers are four words: variable offset, term offset, number of variables, number of terms; in all lists each offset is the total of
-- the matching number over the headers before it."
unfoldable pub headers : (vo to : ℕ) → List Group → List ℕ
headers vo to [] = []
headers vo to (g ∷ gs) =
    vo ∷ to ∷ length g.vars ∷ length g.terms ∷ headers (vo + length g.vars) (to + length g.terms) gs

unfoldable pub variables : List Group → List ℕ
variables gs = flat_map (λ (g : Group). g.vars) gs

unfoldable pub terms : (Item → List ℕ) → List Group → List ℕ
terms term gs = flat_map (λ (g : Group). flat_map term g.terms) gs

-- The three slices of one family.
unfoldable pub layout : (Item → List ℕ) → List Group → List (List ℕ)
layout term gs = headers 0 0 gs ∷ variables gs ∷ terms term gs ∷ []

-- The same read back from the words: rows of a width; each header's variables and its terms.
pub record Listed : Type 0 where
  pub vars : List ℕ
  pub terms : List (List ℕ)

unfoldable pub listed_at : (width : ℕ) (vs ts : List ℕ) → (header : List ℕ) → Listed
listed_at width vs ts h = record {
  vars = take (get_or h 2 0) (drop (get_or h 0 0) vs);
  terms = rows width (get_or h 3 0) (drop (width * get_or h 1 0) ts);
}

unfoldable pub listed : (width : ℕ) (hs vs ts : List ℕ) → List Listed
listed width hs vs ts = map (listed_at width vs ts) (rows 4 (length hs / 4) hs)
