-- How many bytes the numbers, the lines and the lists take.
use mathlib.Core.Path.{◌≡◌, refl, sym, ap, ◌∙◌}
use mathlib.Core.List.{List, [], ◌∷◌}
use Prim.Native.Nat.{ℕ, zero, suc, ◌+◌, ◌*◌, ◌/◌, ◌%◌, ◌≤◌}
use native.Mathlib.Omega.{arith}
use lib.Dec.{ltb}
use lib.IntN.{ℤ, pos, negsuc}
use lib.ListN.{length, get_or, length-append}
use Rattle.slices.proofs.Lists.{flat_length}
use Rattle.semantics.specs.Arithmetic.{signed_of}
use Rattle.semantics.specs.Sheetlist.{digits, decimal, hex_digit, hex_digits, integer, signed, line, t_line, u_line, w_line, dag_text, end_text, refused_text}
use Rattle.semantics.proofs.Basics.{by_test}
use Rattle.listing.specs.Putting.{spaced}
use Rattle.listing.specs.Families.{header_line}
use Rattle.listing.proofs.Pieces.{header_pieces}

-- Numbers.
digits_most : (most n : ℕ) → length (digits most n) ≤ most
unfolding digits
digits_most zero n = omega arith
digits_most (suc most) n =
    let ih = digits_most most (n / 10) in
    by_test (λ (l : List ℕ). length l ≤ suc most) (ltb n 10) (λ e. omega arith) (λ e. omega (arith, length-append (digits most (n / 10)) ((48 + n % 10) ∷ [])))

pub decimal_most : (n : ℕ) → length (decimal n) ≤ 10
unfolding decimal
decimal_most n = digits_most 10 n

integer_most : (z : ℤ) → length (integer z) ≤ 11
unfolding integer
integer_most (pos n) = omega (arith, decimal_most n)
integer_most (negsuc n) = omega (arith, decimal_most (suc n))

pub signed_most : (p c : ℕ) → length (signed p c) ≤ 11
unfolding signed
signed_most p c = integer_most (signed_of p c)

pub hex_length : (count n : ℕ) → length (hex_digits count n) ≡ count
unfolding hex_digits
hex_length zero n = refl
hex_length (suc count) n = length-append (hex_digits count (n / 16)) (hex_digit (n % 16) ∷ []) ∙ omega (arith, hex_length count (n / 16))

-- Lines.
pub t_most : (p : ℕ) (t : List ℕ) → length (t_line p t) ≤ 25
unfolding t_line line
t_most p t = simp length-append (omega (arith, decimal_most (get_or t 0 0), signed_most p (get_or t 1 0)))

pub u_most : (p : ℕ) (t : List ℕ) → length (u_line p t) ≤ 25
unfolding u_line line
u_most p t = simp length-append (omega (arith, decimal_most (get_or t 1 0), signed_most p (get_or t 0 0)))

pub w_most : (p : ℕ) (t : List ℕ) → length (w_line p t) ≤ 36
unfolding w_line line
w_most p t = simp length-append (omega (arith, decimal_most (get_or t 1 0), decimal_most (get_or t 2 0), signed_most p (get_or t 0 0)))

pub dag_most : (nodes constraints rotation : ℕ) → length (line (dag_text ∷ decimal nodes ∷ decimal constraints ∷ decimal rotation ∷ [])) ≤ 37
unfolding line
dag_most nodes constraints rotation = simp length-append (omega (arith, decimal_most nodes, decimal_most constraints, decimal_most rotation))

pub refused_most : (step : List ℕ) (number place : ℕ) → length (line (refused_text ∷ step ∷ decimal number ∷ decimal place ∷ [])) ≤ 31 + length step
unfolding line
refused_most step number place = simp length-append (omega (arith, decimal_most number, decimal_most place))

pub end_length : length (line (end_text ∷ [])) ≡ 4
unfolding line
end_length = refl

pub header_length : (letter : ℕ) (vs : List ℕ) → length (header_line letter vs) ≡ 2 + 9 * length vs
header_length letter vs =
    ap length (sym (header_pieces letter vs))
    ∙ omega (arith, length-append (spaced (hex_digits 8) vs) (10 ∷ []), flat_length (λ (v : ℕ). 32 ∷ hex_digits 8 v) 9 (λ v. ap suc (hex_length 8 v)) vs)
