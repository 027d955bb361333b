-- A record's words compared, and the words in front of an interaction's fields written.
use mathlib.Core.Path.{◌≡◌, refl, ◌∙◌}
use mathlib.Core.Bool.{Bool, true, false, ◌&&◌}
use mathlib.Core.List.{List, [], ◌∷◌}
use Prim.Native.Nat.{ℕ, ◌+◌, ◌≤◌}
use lib.Dec.{eqb}
use lib.ListN.{length, set}
use Rattle.semantics.specs.Sheet.{Record}
use Rattle.semantics.specs.Graph.{equal_records}
use Rattle.slices.specs.Putting.{put, Puts}
use Rattle.slices.proofs.Puts.{stores_put}

-- Equal in all five words, word by word.
and_assoc : (s t u : Bool) → (s && t) && u ≡ s && (t && u)
and_assoc true t u = refl
and_assoc false t u = refl

pub equal_words : (q m : Record) → equal_records q m ≡ eqb q.kind m.kind && (eqb q.a m.a && (eqb q.b m.b && (eqb q.c m.c && eqb q.d m.d)))
unfolding equal_records
equal_words q m = simp and_assoc

-- Four stores, one behind the other.
pub front_put : (out : List ℕ) (to : ℕ) → to + 4 ≤ length out → {bus b weight w : ℕ} → bus ≡ b → weight ≡ w → (count : ℕ) → {len l : ℕ} → len ≡ l
    → Puts out to (b ∷ w ∷ count ∷ l ∷ []) (set (set (set (set out to bus) (to + 1) weight) (to + 2) count) (to + 3) len) (to + 4)
front_put out to room {bus} {b} {weight} {w} bus_is weight_is count {len} {l} len_is = record {
  out_is = stores_put out to bus (weight ∷ count ∷ len ∷ []) room ∙ λ i. put out to (bus_is i ∷ weight_is i ∷ count ∷ len_is i ∷ []);
  next_is = refl;
}
