-- What is lent to a call, as its contract sees it: a slice's elements when the call began, and when it has ended.
use Rattle.std.specs.Prelude.{List, map, ℕ, length}
use Rattle.std.specs.Borrow.{MutBor}
use denote.Triple.Both.{Both}

abbrev pub old : {X : Type 0} → Both (MutBor X) (MutBor X) → X
old s = s.entry.now

abbrev pub new : {X : Type 0} → Both (MutBor X) (MutBor X) → X
new s = s.exit.now

-- A slice of words or bytes; the lengths of several, and what each of them holds in the end.
abbrev pub Lent : Type 0
Lent = Both (MutBor (List ℕ)) (MutBor (List ℕ))

abbrev pub lengths : List Lent → List ℕ
lengths lent = map (λ (s : Lent). length (old s)) lent

abbrev pub contents : List Lent → List (List ℕ)
contents lent = map (λ (s : Lent). new s) lent
