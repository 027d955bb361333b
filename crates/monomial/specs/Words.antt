-- Monomials as words: by value, in the lists of the pool, and in the work list.
use Rattle.std.specs.Prelude.{◌≡◌, ℕ, zero, suc, ◌+◌, ◌*◌, ◌≤◌, ◌<◌, max, length, get_or, take, drop}
use mathlib.Core.List.{List, [], ◌∷◌, map, flat_map}
use Rattle.slices.specs.Rows.{rows}
use Rattle.semantics.specs.Arithmetic.{prime}
use Rattle.semantics.specs.Monomial as semantics
use Rattle.semantics.specs.Monomial.{above, insert_monomial}
use Rattle.semantics.specs.Expand.{list_size}
use Rattle.semantics.specs.Lists.{All, Sorted}
use Rattle.packed_var.specs.declared.PackedVar.{PackedVar}
use Rattle.monomial.specs.declared.Monomial.{Monomial}

-- The numbers of packed variables.
abbrev pub num : PackedVar → ℕ
num v = v.0

abbrev pub nums : List PackedVar → List ℕ
nums vs = map num vs

-- A monomial by value: fourteen places, of which the first `count` are its variables.
abbrev pub monomial_of : Monomial → semantics.Monomial
monomial_of m = record { vars = take m.count (nums m.vars); coef = m.coef }

-- "leaf: one monomial": of a constant, and of a packed variable.
abbrev pub constant : ℕ → semantics.Monomial
constant k = record { vars = []; coef = k }

abbrev pub single : ℕ → semantics.Monomial
single v = record { vars = v ∷ []; coef = 1 }

-- In a list: the number of variables, the coefficient, the variables (01: "2 words a monomial and one a variable").
unfoldable pub monomial_words : semantics.Monomial → List ℕ
monomial_words m = length m.vars ∷ m.coef ∷ m.vars

unfoldable pub list_words : List semantics.Monomial → List ℕ
list_words ms = flat_map monomial_words ms

-- The monomial whose words stand in front.
unfoldable pub read_monomial : List ℕ → semantics.Monomial
read_monomial ws = record { vars = take (get_or ws 0 0) (drop 2 ws); coef = get_or ws 1 0 }

-- The n monomials whose words stand from `at` on.
unfoldable pub read_list : (n : ℕ) → List ℕ → List semantics.Monomial
read_list zero ws = []
read_list (suc n) ws = read_monomial ws ∷ read_list n (drop (2 + get_or ws 0 0) ws)

abbrev pub list_in : (words : List ℕ) (at n : ℕ) → List semantics.Monomial
list_in words at n = read_list n (drop at words)

-- The most variables that a monomial of a list has.
unfoldable pub longest_of : List semantics.Monomial → ℕ
longest_of [] = 0
longest_of (m ∷ ms) = max (length m.vars) (longest_of ms)

-- The work list: sixteen words for each monomial, in which the same words stand in front.
unfoldable pub held : (count : ℕ) → (work : List ℕ) → List semantics.Monomial
held count work = map read_monomial (rows 16 count work)

-- A monomial that an accepted walk may hold: at most fourteen variables in ascending order, and a value for its coefficient.
pub record Fits (m : semantics.Monomial) : Type 0 where
  pub few : length m.vars ≤ 14
  pub sorted : Sorted above m.vars
  pub small : m.coef < prime

-- A list that an accepted walk may hold.
pub record FitsList (ms : List semantics.Monomial) : Type 0 where
  pub few : length ms ≤ 256
  pub fit : All Fits ms

-- A list that stands in the words with monomials that may be held.
pub record ListFits (words : List ℕ) (at n : ℕ) : Type 0 where
  pub inside : at + list_size (list_in words at n) ≤ length words
  pub fit : All Fits (list_in words at n)

-- One monomial after another is summed into a list.
unfoldable pub insert_all : List semantics.Monomial → List semantics.Monomial → List semantics.Monomial
insert_all [] acc = acc
insert_all (m ∷ ms) acc = insert_all ms (insert_monomial prime m acc)

-- Record i's list stands in the pool: two words for each record say where its list starts and how many monomials it has. The list stands at
-- places that a word can hold, and has no more monomials than a walk allows.
pub record Stored (pool : List ℕ) (i : ℕ) (l : List semantics.Monomial) : Type 0 where
  pub head : 2 * i + 1 < length pool
  pub count_is : get_or pool (2 * i + 1) 0 ≡ length l
  pub inside : get_or pool (2 * i) 0 + list_size l ≤ length pool
  pub low : get_or pool (2 * i) 0 + list_size l ≤ 4294967295
  pub few : length l ≤ 256
  pub words_are : take (list_size l) (drop (get_or pool (2 * i) 0) pool) ≡ list_words l
  pub fit : All Fits l
