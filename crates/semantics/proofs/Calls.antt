-- What an accepted call hands back.
use mathlib.Core.Path.{◌≡◌, refl, sym, ◌∙◌, ap}
use mathlib.Core.List.{List, [], ◌∷◌, ◌++◌, map, map-append}
use Prim.Native.Nat.{ℕ, zero, suc, ◌+◌, ◌-◌, ◌≤◌, ◌<◌}
use native.Mathlib.Nat.{sub-zero}
use native.Mathlib.Omega.{arith}
use lib.Dec.{leb}
use lib.ListN.{length, get_or, take, drop, replicate-append-replicate, length-append, length-map, length-replicate, get_or-map}
use lib.Seq.{take-append_seam, get_or-append-add}
use borrow.Author.Tests.{le-leb, lt-leb}
use Rattle.semantics.specs.Answer.{Answer, good, refused}
use Rattle.semantics.specs.Call.{Result, Accepted, zeros, padded, padded_all, outcome, handed_back, needs}
use Rattle.semantics.proofs.Basics.{cond_true, cond_false}

-- Zeros, and words padded with them.
pub zeros_add : (m n : ℕ) → zeros (m + n) ≡ zeros m ++ zeros n
unfolding zeros
zeros_add m n = sym (replicate-append-replicate m n 0)

pub zeros_long : (n : ℕ) → length (zeros n) ≡ n
unfolding zeros
zeros_long n = length-replicate {A = ℕ} n 0

pub drop_zeros : (j m : ℕ) → drop j (zeros m) ≡ zeros (m - j)
unfolding zeros
drop_zeros zero m = ap zeros (sym (sub-zero m))
drop_zeros (suc j) zero = let e : 0 ≡ 0 - suc j = omega arith in ap zeros e
drop_zeros (suc j) (suc m) = let e : m - j ≡ suc m - suc j = omega arith in drop_zeros j m ∙ ap zeros e

pub padded_is : (ws : List ℕ) (n : ℕ) → padded ws n ≡ ws ++ zeros (n - length ws)
unfolding padded
padded_is ws n = refl

pub padded_length : (ws : List ℕ) (n : ℕ) → length ws ≤ n → length (padded ws n) ≡ n
padded_length ws n h =
    ap length (padded_is ws n) ∙ length-append ws (zeros (n - length ws)) ∙ omega (arith, zeros_long (n - length ws))

-- A slice long enough is no reason to refuse.
pub needs_met : {X : Type 0} (number needed lent : ℕ) (rest : Answer X) → needed ≤ lent → needs number needed lent rest ≡ rest
unfolding needs
needs_met number needed lent rest h = cond_true (leb needed lent) rest (refused number needed) (le-leb needed lent h)

-- Too short a slice is one.
pub needs_short : {X : Type 0} (number needed lent : ℕ) (rest : Answer X) → lent < needed → refused number needed ≡ needs number needed lent rest
unfolding needs
needs_short number needed lent rest h = sym (cond_false (leb needed lent) rest (refused number needed) (lt-leb needed lent h))

padded_at : (ws : List (List ℕ)) (lent : List ℕ) (k : ℕ) → length ws ≤ length lent
    → take (length (get_or ws k [])) (get_or (padded_all ws lent) k []) ≡ get_or ws k []
unfolding padded_all padded
padded_at [] lent k h = refl
padded_at (w ∷ ws) [] k h = absurd (omega arith)
padded_at (w ∷ ws) (n ∷ ns) zero h = take-append_seam w _
padded_at (w ∷ ws) (n ∷ ns) (suc k) h = padded_at ws ns k (omega arith)

-- A call that comes to a result is accepted, and with a slice for each output it hands back every output.
module _ (scratch lent : List ℕ) (a : Answer Result) (r : Result) (e : a ≡ good r) where
  pub accepted : Accepted (outcome scratch lent a)
  unfolding outcome
  accepted = rw e

  pub handed_back_lem : (k : ℕ) → length r.outputs ≤ length lent → handed_back (length scratch) (outcome scratch lent a) k ≡ get_or r.outputs k []
  unfolding handed_back outcome
  handed_back_lem k h =
      ap (λ (b : Answer Result). handed_back (length scratch) (outcome scratch lent b) k) e
      ∙ (λ i. take (get_or-map length r.outputs k [] i) (slice i))
      ∙ padded_at r.outputs lent k h
    where
      slice : get_or (map zeros scratch ++ padded_all r.outputs lent) (length scratch + k) [] ≡ get_or (padded_all r.outputs lent) k []
      slice =
          ap (λ (n : ℕ). get_or (map zeros scratch ++ padded_all r.outputs lent) (n + k) []) (sym (length-map scratch zeros))
          ∙ get_or-append-add (map zeros scratch) (padded_all r.outputs lent) k []

-- Whatever the answer, every slice keeps its length; after a refusal it holds only zeros.
abbrev pub AllZero : List ℕ → Type 0
AllZero [] = Unit {0}
AllZero (w ∷ ws) = (w ≡ 0) × AllZero ws

abbrev pub AllZeros : List (List ℕ) → Type 0
AllZeros [] = Unit {0}
AllZeros (s ∷ ss) = AllZero s × AllZeros ss

zeros_zero : (n : ℕ) → AllZero (zeros n)
unfolding zeros
zeros_zero zero = tt
zeros_zero (suc n) = (refl, zeros_zero n)

zeros_length : (lent : List ℕ) → map length (map zeros lent) ≡ lent
zeros_length [] = refl
zeros_length (n ∷ ns) = λ i. zeros_long n i ∷ zeros_length ns i

pub refused_zeros : (scratch lent : List ℕ) (n k : ℕ)
    → AllZeros (outcome scratch lent (refused n k)).slices × (map length (outcome scratch lent (refused n k)).slices ≡ scratch ++ lent)
unfolding outcome
refused_zeros scratch lent n k = (all (scratch ++ lent), zeros_length (scratch ++ lent))
  where
    all : (ns : List ℕ) → AllZeros (map zeros ns)
    all [] = tt
    all (m ∷ ns) = (zeros_zero m, all ns)

-- The outputs have their slices, each long enough.
abbrev pub Room : List (List ℕ) → List ℕ → Type 0
Room [] [] = Unit {0}
Room [] (n ∷ ns) = ⊥
Room (w ∷ ws) [] = ⊥
Room (w ∷ ws) (n ∷ ns) = (length w ≤ n) × Room ws ns

padded_lengths : (ws : List (List ℕ)) (lent : List ℕ) → Room ws lent → map length (padded_all ws lent) ≡ lent
unfolding padded_all
padded_lengths [] [] h = refl
padded_lengths [] (n ∷ ns) h = absurd h
padded_lengths (w ∷ ws) [] h = absurd h
padded_lengths (w ∷ ws) (n ∷ ns) h = λ i. padded_length w n h.0 i ∷ padded_lengths ws ns h.1 i

pub accepted_lengths : (scratch lent : List ℕ) (r : Result) → Room r.outputs lent
    → map length (outcome scratch lent (good r)).slices ≡ scratch ++ lent
unfolding outcome
accepted_lengths scratch lent r h =
    map-append length (map zeros scratch) (padded_all r.outputs lent) ∙ (λ i. zeros_length scratch i ++ padded_lengths r.outputs lent h i)
