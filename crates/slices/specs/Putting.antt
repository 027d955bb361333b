-- What a slice is with some elements written at a place.
use Rattle.std.specs.Prelude.{◌≡◌, List, ◌++◌, ℕ, ◌+◌, length, take, drop}

abbrev pub put : List ℕ → ℕ → List ℕ → List ℕ
put out at xs = take at out ++ (xs ++ drop (at + length xs) out)

-- They are put, and `next` is where the slice goes on.
pub record Puts (out : List ℕ) (at : ℕ) (xs : List ℕ) (out' : List ℕ) (next : ℕ) : Type 0 where
  pub out_is : out' ≡ put out at xs
  pub next_is : next ≡ at + length xs
