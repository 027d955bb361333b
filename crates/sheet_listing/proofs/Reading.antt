-- Reading to the front of a buffer, and listing what was read.
use Rattle.std.proofs.Common.{◌≡◌, List, ℕ, ◌++◌, ◌+◌, ◌-◌, ◌≤◌, length, take, drop, replicate, refl, sym, ap, ◌∙◌, subst, le_refl, drop_at, length-take-le}
use Rattle.std.proofs.Common.{IfSome, None, Some, Result, Ok, Err, OnOk}
use Rattle.std.specs.declared.option.Option.{Option}
use Rattle.std.specs.Io.KnownBytes.{Consumes, Appends}
use Rattle.std.proofs.lemmas.Slice.{take-put_mid_below}
use borrow.Rule.Slice.PartMut.{put_mid, post_of}
use lib.Seq.{take-add, take-append-le, take_at}
use Rattle.semantics.specs.Arithmetic.{prime}
use Rattle.semantics.specs.Call.{zeros, padded}
use Rattle.semantics.specs.Sheetlist.{sheetlist}
use Rattle.sheet_listing.specs.Inputs.{ReadOf}
use Rattle.sheet_listing.proofs.Inputs.{printed_fits, read_itself}

-- The first n bytes of the buffer were taken from the bytes that the input had.
abbrev pub Taken : (known left : Option (List ℕ)) (buffer : List ℕ) (n : ℕ) → Type 0
Taken known left buffer n = (n ≤ length buffer) × Consumes known left (take n buffer)

-- What is read behind the first n bytes joins them.
module _ (n m : ℕ) (old part : List ℕ) (within : n ≤ length old) (fits : m ≤ length part) where
  abbrev both : List ℕ
  both = put_mid n (length old - n) old part

  behind : take m (drop n both) ≡ take m part
  behind =
      ap (take m) (drop_at (take n old) (part ++ post_of n (length old - n) old) n (length-take-le n old within))
      ∙ take-append-le m part (post_of n (length old - n) old) fits

  pub joined : take n old ++ take m part ≡ take (n + m) both
  joined =
      (λ i. sym (take-put_mid_below n (length old - n) old part n (le_refl n) within) i ++ sym behind i)
      ∙ sym (take-add n m both)

-- What an input that says its bytes lists.
module _ (buffer out : List ℕ) (n printed : ℕ)
    (told : (input : List ℕ) → ReadOf buffer n input → (out ≡ padded (sheetlist prime input) 65536) × (printed ≡ length (sheetlist prime input))) where
  pub printed_within : printed ≤ length out
  printed_within =
      let read = take n buffer in
      let t = told read (read_itself buffer n) in
      printed_fits (sheetlist prime read) 65536 t.0 t.1

  prints : (bytes : List ℕ) → ReadOf buffer n bytes → take printed out ≡ sheetlist prime bytes
  unfolding padded zeros
  prints bytes h =
      let t = told bytes h in
      (λ i. take (t.1 i) (t.0 i)) ∙ take_at (sheetlist prime bytes) (replicate (65536 - length (sheetlist prime bytes)) 0) (length (sheetlist prime bytes)) refl

  of_known : (known a b : Option (List ℕ)) → IfSome known (λ bytes. ReadOf buffer n bytes) → Appends a b (take printed out)
      → IfSome known (λ bytes. Appends a b (sheetlist prime bytes))
  of_known None a b h e = tt
  of_known (Some bytes) a b h e = subst (Appends a b) (prints bytes h) e

  pub listed : {T E : Type 0} → (r : Result T E) (known a b : Option (List ℕ)) → IfSome known (λ bytes. ReadOf buffer n bytes)
      → OnOk r (Appends a b (take printed out)) → OnOk r (IfSome known (λ bytes. Appends a b (sheetlist prime bytes)))
  listed (Ok x) known a b h e = of_known known a b h e
  listed (Err x) known a b h e = tt
