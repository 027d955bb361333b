-- Two lists of variables taken together from their fronts.
use Rattle.std.specs.Prelude.{cond, List, [], ◌∷◌, ℕ, ◌-◌, take, drop}
use Rattle.semantics.specs.Monomial.{above}
use Rattle.packed_var.specs.declared.PackedVar.{PackedVar}
use Rattle.monomial.specs.Words.{nums}

-- Of two equal numbers the first list's goes first.
unfoldable pub merged : List ℕ → List ℕ → List ℕ
merged [] ys = ys
merged (x ∷ xs) [] = x ∷ xs
merged (x ∷ xs) (y ∷ ys) = cond (above x y) (y ∷ merged (x ∷ xs) ys) (x ∷ merged xs (y ∷ ys))

-- What remains of the first n variables from place i on, as numbers.
abbrev pub remaining : List PackedVar → (i n : ℕ) → List ℕ
remaining vs i n = take (n - i) (drop i (nums vs))

-- What remains of two lists of variables, taken together: of the first from place i to n, of the second from place j to m.
abbrev pub merged_rest : List PackedVar → (i n : ℕ) → List PackedVar → (j m : ℕ) → List ℕ
merged_rest vs i n us j m = merged (remaining vs i n) (remaining us j m)
