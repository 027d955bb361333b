-- Numbers in decimal and in hex, digit by digit.
use mathlib.Core.Path.{◌≡◌, refl, sym, ap, ◌∙◌}
use mathlib.Core.List.{[], ◌∷◌, ◌++◌}
use Prim.Native.Nat.{ℕ, zero, suc, ◌+◌, ◌-◌, ◌/◌, ◌%◌, ◌≤◌, ◌<◌}
use native.Mathlib.Omega.{arith}
use borrow.Author.Tests.{lt-ltb, le-ltb}
use Rattle.semantics.specs.Sheetlist.{digits, hex_digit, hex_digits}
use Rattle.listing.specs.declared.output.Out.{Out}
use Rattle.listing.specs.Putting.{Room, Writes}
use Rattle.listing.proofs.Writing.{room_front, puts_none, puts_is, Done, done_none, done_more}

-- No digits; a number below 10 is one digit, and any other its tenth and one digit more.
pub digits_none : (o : Out) (most n : ℕ) → most ≡ 0 → Writes o (digits most n) o
unfolding digits
digits_none o most n h = puts_is (puts_none o) (rw h)

module _ (o : Out) (most n : ℕ) (some : most ≡ 0 → ⊥) (room : Room o (digits most n)) where
  some_more : most ≡ suc (most - 1)
  some_more = omega arith

  pub digits_one : n < 10 → Done o (digits most n) ((48 + n % 10) ∷ []) o
  unfolding digits
  digits_one h = let e : n % 10 ≡ n = omega arith in done_none o (rw (some_more, lt-ltb n 10 h, e)) room

  module _ (h : 10 ≤ n) where
    tenth_joins : digits (most - 1) (n / 10) ++ ((48 + n % 10) ∷ []) ≡ digits most n
    unfolding digits
    tenth_joins = sym (ap (λ (m : ℕ). digits m n) some_more ∙ rw (le-ltb n 10 h))

    pub tenth_room : Room o (digits (most - 1) (n / 10))
    tenth_room = room_front o (digits (most - 1) (n / 10)) ((48 + n % 10) ∷ []) tenth_joins room

    pub tenth_put : {o' : Out} → Writes o (digits (most - 1) (n / 10)) o' → Done o (digits most n) ((48 + n % 10) ∷ []) o'
    tenth_put k = done_more (done_none o tenth_joins room) (digits (most - 1) (n / 10)) ((48 + n % 10) ∷ []) refl k

-- A word's digits in hex.
pub hex_none : (o : Out) (count n : ℕ) → count ≡ 0 → Writes o (hex_digits count n) o
unfolding hex_digits
hex_none o count n h = puts_is (puts_none o) (rw h)

pub hex_more : (count n d : ℕ) → (count ≡ 0 → ⊥) → d ≡ hex_digit (n % 16) → hex_digits (count - 1) (n / 16) ++ (d ∷ []) ≡ hex_digits count n
unfolding hex_digits
hex_more zero n d h e = absurd (h refl)
hex_more (suc count) n d h e = let less : suc count - 1 ≡ count = omega arith in rw (e, less)

pub hex_low : (d : ℕ) → d < 10 → 48 + d ≡ hex_digit d
unfolding hex_digit
hex_low d h = rw (lt-ltb d 10 h)

pub hex_high : (d : ℕ) → 10 ≤ d → 97 + (d - 10) ≡ hex_digit d
unfolding hex_digit
hex_high d h = rw (le-ltb d 10 h) (omega arith)
