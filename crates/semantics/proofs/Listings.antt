-- The bytes that `sheetlist` reads are enough.
use mathlib.Core.Path.{◌≡◌, refl, sym, ◌∙◌, ap}
use mathlib.Core.Bool.{Bool, true, false}
use mathlib.Core.List.{List, [], ◌∷◌}
use Prim.Native.Nat.{ℕ, ◌<◌}
use lib.Dec.{leb}
use lib.ListN.{length, take, length-take}
use lib.Seq.{take_all}
use borrow.Author.Tests.{lt-leb}
use Rattle.semantics.specs.Sheetlist.{decimal, line, refused_text, read_text, most_taken, most_read, sheetlist, ReadsEnough}
use Rattle.semantics.proofs.Basics.{cond_false, tests}

-- One byte too many gives the same as more.
pub too_many : (p : ℕ) (input : List ℕ) → most_taken < length input → sheetlist p input ≡ line (refused_text ∷ read_text ∷ decimal 1 ∷ decimal 0 ∷ [])
unfolding sheetlist
too_many p input l = cond_false (leb (length input) most_taken) _ _ (lt-leb (length input) most_taken l)

pub reads_enough : ReadsEnough
reads_enough p input = by (leb (length input) most_taken) refl
  where
    by : (t : Bool) → leb (length input) most_taken ≡ t → sheetlist p (take most_read input) ≡ sheetlist p input
    by true e = ap (sheetlist p) (take_all most_read input (omega tests))
    by false e =
        too_many p (take most_read input) (omega (tests, length-take most_read input)) ∙ sym (too_many p input (omega tests))
