-- The whole slice that a listing fills, and what is read of an input.
use mathlib.Core.Path.{◌≡◌, refl, sym, ap, ◌∙◌}
use mathlib.Core.List.{List, ◌++◌}
use Prim.Native.Nat.{ℕ, ◌+◌, ◌-◌, ◌≤◌, min}
use native.Mathlib.Omega.{arith}
use lib.ListN.{length, take, drop, replicate, length-append, length-take}
use lib.Seq.{take_at, take_all}
use Rattle.std.proofs.lemmas.List.{take_min}
use Rattle.semantics.specs.Arithmetic.{prime}
use Rattle.semantics.specs.Call.{zeros, padded}
use Rattle.semantics.specs.Sheetlist.{most_read, sheetlist}
use Rattle.semantics.proofs.Listings.{reads_enough}
use Rattle.slices.specs.Putting.{put}
use Rattle.listing.specs.declared.output.Out.{Out}
use Rattle.listing.specs.Putting.{Room, Writes}
use Rattle.listing.proofs.Writing.{puts_length}
use Rattle.listing.proofs.Totals.{sheetlist_most}
use Rattle.sheet_listing.specs.Inputs.{ReadOf}

-- The whole slice: what is printed, and zeros behind it.
module _ (bytes : List ℕ) (o : Out) (long : length o.bytes.now ≡ 65536) (start : o.at ≡ 0) where
  pub whole_room : Room o (sheetlist prime bytes)
  whole_room = omega (arith, sheetlist_most bytes)

  module _ {new : Out} (h : Writes o (sheetlist prime bytes) new) where
    pub printed : new.at ≡ length (sheetlist prime bytes)
    printed = h.puts.next_is ∙ omega arith

    front : take new.at new.bytes.now ≡ sheetlist prime bytes
    front =
        (λ i. take (printed i) ((h.puts.out_is ∙ ap (λ (k : ℕ). put o.bytes.now k (sheetlist prime bytes)) start) i))
        ∙ take_at (sheetlist prime bytes) (drop (0 + length (sheetlist prime bytes)) o.bytes.now) (length (sheetlist prime bytes)) refl

    pub whole : {r : ℕ} {all : List ℕ} → r ≡ new.at → all ≡ take r new.bytes.now ++ replicate (length new.bytes.now - r) 0 → all ≡ padded (sheetlist prime bytes) 65536
    unfolding padded zeros
    whole {r} f e =
        let n : length new.bytes.now - r ≡ 65536 - length (sheetlist prime bytes) = omega (arith, f, printed, puts_length h whole_room) in
        e ∙ (λ i. take (f i) new.bytes.now ++ replicate (n i) 0) ∙ ap (λ (l : List ℕ). l ++ replicate (65536 - length (sheetlist prime bytes)) 0) front

-- What is printed stands inside the slice.
pub printed_fits : (ws : List ℕ) (lent : ℕ) {out : List ℕ} {r : ℕ} → out ≡ padded ws lent → r ≡ length ws → r ≤ length out
unfolding padded zeros
printed_fits ws lent e f = omega (arith, f, ap length e, length-append ws (replicate (lent - length ws) 0))

-- What is read of an input prints what the input does.
pub read_prints : (buffer : List ℕ) (n : ℕ) {m : ℕ} → length buffer ≡ most_read → m ≡ min n most_read → (input : List ℕ) → ReadOf buffer n input
    → sheetlist prime (take m buffer) ≡ sheetlist prime input
read_prints buffer n long is input h =
    ap (sheetlist prime) (ap (λ (k : ℕ). take k buffer) (is ∙ ap (min n) (sym long)) ∙ take_min n buffer ∙ h ∙ ap (λ (k : ℕ). take k input) long)
    ∙ reads_enough prime input

-- What was read is an input of which it was read.
pub read_itself : (buffer : List ℕ) (n : ℕ) → ReadOf buffer n (take n buffer)
read_itself buffer n = sym (take_all (length buffer) (take n buffer) (omega (arith, length-take n buffer)))
