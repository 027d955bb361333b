-- Grouping in memory: rows of four words while monomials are counted, the terms as they are placed, and the finished headers.
use Rattle.std.specs.Prelude.{◌≡◌, Result, Ok, Err, true, cond, ℕ, zero, suc, ◌+◌, ◌*◌, ◌-◌, ◌≤◌, ◌<◌, eqb, length, get_or, take, drop, set}
use mathlib.Core.List.{List, [], ◌∷◌, ◌++◌, map, flat_map}
use Rattle.slices.specs.Rows.{rows}
use Rattle.semantics.specs.Monomial.{BeforeVars, Monomial, before_vars}
use Rattle.semantics.specs.Group.{Item, items_of, constraint_term, interaction_term}
use Rattle.semantics.specs.Call.{zeros, padded}
use Rattle.semantics.specs.Lists.{AscendBy, All}
use Rattle.monomial.specs.Words.{read_monomial, list_in, Stored}
use Rattle.group.specs.declared.place.Form.{Form}
use Rattle.group.specs.declared.place.Form.TheVariants.{Constraint, Interaction}
use Rattle.group.specs.declared.place.Label.{Label}
use Rattle.group.specs.declared.place.Label.TheVariants as label

-- A choice by where one variable list stands, seen from another: before it, behind it, or the same.
unfoldable pub by_order : {X : Type 0} → (v w : List ℕ) → (less more same : X) → X
by_order v w less more same = cond (before_vars v w) less (cond (before_vars w v) more same)

-- A variable list, and how many monomials have it.
pub record Tally : Type 0 where
  pub vars : List ℕ
  pub count : ℕ

-- One more monomial with these variables; the tallies ascend.
unfoldable pub tally : List ℕ → List Tally → List Tally
tally v [] = record { vars = v; count = 1 } ∷ []
tally v (g ∷ gs) =
    by_order v g.vars (record { vars = v; count = 1 } ∷ g ∷ gs) (g ∷ tally v gs)
    (record { vars = g.vars; count = suc g.count } ∷ gs)

unfoldable pub tally_all : List (List ℕ) → List Tally → List Tally
tally_all [] gs = gs
tally_all (v ∷ vs) gs = tally_all vs (tally v gs)

-- The items with these variables, in their order.
unfoldable pub select : List ℕ → List Item → List Item
select v [] = []
select v (t ∷ ts) = by_order v t.vars (select v ts) (select v ts) (t ∷ select v ts)

-- Variables ascend strictly.
abbrev pub Ascends : List Tally → Type 0
Ascends gs = AscendBy BeforeVars (λ (g : Tally). g.vars) gs

-- How many monomials are counted: with these variables, and in all.
unfoldable pub tallied_count : List ℕ → List Tally → ℕ
tallied_count v [] = 0
tallied_count v (g ∷ gs) = by_order v g.vars 0 (tallied_count v gs) g.count

unfoldable pub tallied_total : List Tally → ℕ
tallied_total [] = 0
tallied_total (g ∷ gs) = g.count + tallied_total gs

-- The terms placed so far, as words: each group's, and zeros up to its room.
unfoldable pub placed : (term : Item → List ℕ) (width : ℕ) → List Tally → (done : List Item) → List ℕ
placed term width [] done = []
placed term width (g ∷ gs) done = padded (flat_map term (select g.vars done)) (width * g.count) ++ placed term width gs done

-- Where the next term of each group goes, counted in terms.
unfoldable pub cursors : (start : ℕ) → List Tally → (done : List Item) → List ℕ
cursors start [] done = []
cursors start (g ∷ gs) done = (start + length (select g.vars done)) ∷ cursors (start + g.count) gs done

-- The groups have room for these items.
abbrev pub RoomForTerms : List Tally → List Item → Type 0
RoomForTerms gs ts = (v : List ℕ) → length (select v ts) ≤ tallied_count v gs

-- A row of the headers while monomials are counted: where a monomial with its variables stands in the pool, where its next term goes,
-- the number of variables, the number of terms.
unfoldable pub tally_row : (pool row : List ℕ) → Tally
tally_row pool row = record { vars = take (get_or row 2 0) (drop (get_or row 0 0 + 2) pool); count = get_or row 3 0 }

unfoldable pub tallied : (n : ℕ) (headers pool : List ℕ) → List Tally
tallied n headers pool = map (tally_row pool) (rows 4 n headers)

abbrev pub RowInside : (pool row : List ℕ) → Type 0
RowInside pool row = (get_or row 0 0 + 2 + get_or row 2 0 ≤ length pool) × (get_or row 2 0 ≤ 14)

-- Row i of the headers: where a monomial with its variables stands in the pool, how many variables it has, and these variables.
abbrev pub row_place : (headers : List ℕ) (i : ℕ) → ℕ
row_place headers i = get_or headers (4 * i) 0

abbrev pub row_size : (headers : List ℕ) (i : ℕ) → ℕ
row_size headers i = get_or headers (4 * i + 2) 0

abbrev pub row_vars : (headers pool : List ℕ) (i : ℕ) → List ℕ
row_vars headers pool i = take (row_size headers i) (drop (row_place headers i + 2) pool)

-- The headers hold n rows, which ascend, and then zeros.
pub record Rows (n : ℕ) (headers pool : List ℕ) : Type 0 where
  pub room : 4 * n ≤ length headers
  pub inside : All (RowInside pool) (rows 4 n headers)
  pub ascends : Ascends (tallied n headers pool)
  pub rest : drop (4 * n) headers ≡ zeros (length headers - 4 * n)

abbrev pub none : Tally
none = record { vars = []; count = 0 }

-- Where variables are found among tallies, or where they belong.
abbrev pub Spot : List ℕ → List Tally → Result ℕ ℕ → Type 0
Spot v gs (Ok k) = (k < length gs) × ((get_or gs k none).vars ≡ v)
Spot v gs (Err k) =
    (k ≤ length gs)
    × ((i : ℕ) → i < k → before_vars (get_or gs i none).vars v ≡ true)
    × ((i : ℕ) → k ≤ i → i < length gs → before_vars v (get_or gs i none).vars ≡ true)

-- Between low and high: everything below low stands before v, everything from high on behind it.
abbrev pub Between : (v : List ℕ) (gs : List Tally) (low high : ℕ) → Type 0
Between v gs low high =
    (low ≤ high) × (high ≤ length gs)
    × ((i : ℕ) → i < low → before_vars (get_or gs i none).vars v ≡ true)
    × ((i : ℕ) → high ≤ i → i < length gs → before_vars v (get_or gs i none).vars ≡ true)

-- n rows with these tallies.
abbrev pub RowsAre : (n : ℕ) (headers pool : List ℕ) (gs : List Tally) → Type 0
RowsAre n headers pool gs = Rows n headers pool × (tallied n headers pool ≡ gs)

-- The variables of the monomials whose coefficient is not 0.
unfoldable pub non_zero : List Monomial → List (List ℕ)
non_zero [] = []
non_zero (m ∷ ms) = cond (eqb m.coef 0) (non_zero ms) (m.vars ∷ non_zero ms)

-- The monomial whose words stand in the pool from `at` on: the number of its variables, its coefficient, its variables.
abbrev pub monomial_in : (pool : List ℕ) (at : ℕ) → Monomial
monomial_in pool at = read_monomial (drop at pool)

-- These words are all inside the pool.
abbrev pub MonomialInside : (pool : List ℕ) (at : ℕ) → Type 0
MonomialInside pool at = at + 2 + get_or pool at 0 ≤ length pool

-- The words of n monomials stand in the pool from `at` on, at places that a word can hold.
abbrev pub Standing : (n : ℕ) (pool : List ℕ) (at : ℕ) → Type 0
Standing zero pool at = Unit {0}
Standing (suc n) pool at =
    (get_or pool at 0 ≤ 14) × MonomialInside pool at × (at ≤ 4294967295) × Standing n pool (at + 2 + get_or pool at 0)

-- The places of the n monomials that stand from `at` on, those whose coefficient is 0 left out.
unfoldable pub kept_places : (pool : List ℕ) (at n : ℕ) → List ℕ
kept_places pool at zero = []
kept_places pool at (suc n) =
    cond (eqb (get_or pool (at + 1) 0) 0) (kept_places pool (at + 2 + get_or pool at 0) n) (at ∷ kept_places pool (at + 2 + get_or pool at 0) n)

-- The list of record i in the pool.
abbrev pub list_of : (pool : List ℕ) (i : ℕ) → List Monomial
list_of pool i = list_in pool (get_or pool (2 * i) 0) (get_or pool (2 * i + 1) 0)

abbrev pub InPool : (pool : List ℕ) (i : ℕ) → Type 0
InPool pool i = Stored pool i (list_of pool i)

-- The places of the monomials of its list, those whose coefficient is 0 left out.
abbrev pub kept_of : (pool : List ℕ) (i : ℕ) → List ℕ
kept_of pool i = kept_places pool (get_or pool (2 * i) 0) (get_or pool (2 * i + 1) 0)

-- One word of each row, and the sum of some words.
unfoldable pub column : (word n : ℕ) (headers : List ℕ) → List ℕ
column word n headers = map (λ (row : List ℕ). get_or row word 0) (rows 4 n headers)

unfoldable pub sum : List ℕ → ℕ
sum [] = 0
sum (x ∷ xs) = x + sum xs

-- Word `to` of each row becomes the total of word `from` over the rows before it.
unfoldable pub totalled : (to from start : ℕ) → List (List ℕ) → List (List ℕ)
totalled to from start [] = []
totalled to from start (row ∷ rs) = set row to start ∷ totalled to from (start + get_or row from 0) rs

-- A term in its form: of a constraint, two words, or of an interaction, three.
abbrev pub term_of : Form → Item → List ℕ
term_of Constraint t = constraint_term t
term_of Interaction t = interaction_term t

abbrev pub term_width : Form → ℕ
term_width Constraint = 2
term_width Interaction = 3

-- The form of the terms under a label, its index and its field, and the words of a term with a coefficient.
abbrev pub form_at : Label → Form
form_at (label.Constraint i) = Constraint
form_at (label.Interaction i f) = Interaction

abbrev pub index_at : Label → ℕ
index_at (label.Constraint i) = i
index_at (label.Interaction i f) = i

abbrev pub field_at : Label → ℕ
field_at (label.Constraint i) = 0
field_at (label.Interaction i f) = f

abbrev pub words_at : Label → (coef : ℕ) → List ℕ
words_at (label.Constraint i) c = i ∷ c ∷ []
words_at (label.Interaction i f) c = c ∷ i ∷ f ∷ []

-- A monomial as an item, the items of a list, and those of monomials that stand at some places of the pool, for a label.
abbrev pub item_at : Label → Monomial → Item
item_at l m = record { vars = m.vars; index = index_at l; field = field_at l; coef = m.coef }

abbrev pub items_at : Label → List Monomial → List Item
items_at l ms = items_of (record { node = 0; index = index_at l; field = field_at l }) ms

abbrev pub items_on : Label → (pool places : List ℕ) → List Item
items_on l pool places = map (λ (at : ℕ). item_at l (monomial_in pool at)) places

-- Headers and terms while the items `done` are placed into the groups `gs`.
pub record Placing (form : Form) (gs : List Tally) (n : ℕ) (headers pool terms : List ℕ) (done : List Item) : Type 0 where
  pub rows_are : Rows n headers pool
  pub tallies_are : tallied n headers pool ≡ gs
  pub cursors_are : column 1 n headers ≡ cursors 0 gs done
  pub terms_are : terms ≡ padded (placed (term_of form) (term_width form) gs done) (length terms)
  pub fits : term_width form * tallied_total gs ≤ length terms
  pub small : tallied_total gs ≤ 4294967295

-- What placing some items asks.
pub record ToPlace (form : Form) (n : ℕ) (headers pool terms : List ℕ) (ts : List Item) : Type 0 where
  pub gs : List Tally
  pub done : List Item
  pub placing : Placing form gs n headers pool terms done
  pub room : RoomForTerms gs (done ++ ts)

-- The variables of the groups.
unfoldable pub vars_in : List Tally → List ℕ
vars_in gs = flat_map (λ (g : Tally). g.vars) gs

-- The headers of the groups: both offsets count from what stands before.
unfoldable pub tallied_headers : (vo to : ℕ) → List Tally → List ℕ
tallied_headers vo to [] = []
tallied_headers vo to (g ∷ gs) = vo ∷ to ∷ length g.vars ∷ g.count ∷ tallied_headers (vo + length g.vars) (to + g.count) gs

-- What placing the items `ts` does, whatever was placed before.
abbrev pub Places : (form : Form) (n : ℕ) (pool headers terms headers' terms' : List ℕ) (ts : List Item) → Type 0
Places form n pool headers terms headers' terms' ts =
    (gs : List Tally) → (done : List Item) → Placing form gs n headers pool terms done → RoomForTerms gs (done ++ ts)
    → Placing form gs n headers' pool terms' (done ++ ts)

-- The variables of the monomials that the lists of these records have, zero coefficients left out.
unfoldable pub vars_named : (pool references : List ℕ) → List (List ℕ)
vars_named pool references = flat_map (λ (i : ℕ). non_zero (list_of pool i)) references
