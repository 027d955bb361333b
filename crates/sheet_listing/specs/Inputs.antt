-- What is read of an input.
use Rattle.std.specs.Prelude.{◌≡◌, List, ℕ, length, take}

-- The first n bytes of a buffer were read of an input: all of it, or as much of it as the buffer takes.
abbrev pub ReadOf : (buffer : List ℕ) (n : ℕ) (input : List ℕ) → Type 0
ReadOf buffer n input = take n buffer ≡ take (length buffer) input
