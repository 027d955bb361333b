-- What is known while the digits of a number are read.
use Rattle.std.proofs.Common.{◌≡◌, true, false, List, [], ◌∷◌, ℕ, suc, ◌+◌, ◌-◌, ◌<◌, ◌≤◌, arith, refl, sym, ◌∙◌, ap, drop, get_or}
use Rattle.std.specs.Prelude.{⊤, Option, Some, None, IfSome}
use Rattle.std.proofs.lemmas.Bool.{cond-true, cond-false, le-leb, lt-leb}
use Rattle.number_input.specs.Numbers.{is_digit, with_digit, reading, front_number, behind_number}

-- Some digits of a text were read, which make the value; what is left makes the rest of its number, of at most so many bytes.
abbrev pub ReadOn : (most cut : ℕ) (text : Option (List ℕ)) (more value : ℕ) (left : Option (List ℕ)) → Type 0
ReadOn most cut None more value left = ⊤
ReadOn most cut (Some xs) more value None = ⊥
ReadOn most cut (Some xs) more value (Some ys) = (front_number most cut xs ≡ reading more cut value ys) × (behind_number most xs ≡ behind_number more ys)

-- A byte was read.
abbrev pub Byte : (left : Option (List ℕ)) (b : ℕ) → Type 0
Byte left b = IfSome left (λ bytes. b ≡ get_or bytes 0 0)

abbrev pub Rest : (left rest : Option (List ℕ)) → Type 0
Rest left rest = IfSome left (λ bytes. rest ≡ Some (drop 1 bytes))

reading_digit : (n cut v b : ℕ) (ys : List ℕ) → b ≡ get_or ys 0 0 → is_digit b ≡ true → reading (suc n) cut v ys ≡ reading n cut (with_digit cut v b) (drop 1 ys)
unfolding reading
reading_digit n cut v b [] e d = absurd (let f : false ≡ true = sym (ap is_digit e) ∙ d in cc)
reading_digit n cut v b (y ∷ ys) e d = rw (← e) (cond-true (is_digit b) _ _ d)

behind_digit : (n b : ℕ) (ys : List ℕ) → b ≡ get_or ys 0 0 → is_digit b ≡ true → behind_number (suc n) ys ≡ behind_number n (drop 1 ys)
unfolding behind_number
behind_digit n b [] e d = absurd (let f : false ≡ true = sym (ap is_digit e) ∙ d in cc)
behind_digit n b (y ∷ ys) e d = rw (← e) (cond-true (is_digit b) _ _ d)

reading_end : (n cut v b : ℕ) (ys : List ℕ) → b ≡ get_or ys 0 0 → is_digit b ≡ false → reading (suc n) cut v ys ≡ v
unfolding reading
reading_end n cut v b [] e d = refl
reading_end n cut v b (y ∷ ys) e d = rw (← e) (cond-false (is_digit b) _ _ d)

behind_end : (n b : ℕ) (ys : List ℕ) → b ≡ get_or ys 0 0 → is_digit b ≡ false → behind_number (suc n) ys ≡ drop 1 ys
unfolding behind_number
behind_end n b [] e d = refl
behind_end n b (y ∷ ys) e d = rw (← e) (cond-false (is_digit b) _ _ d)

bytes_left : (k end : ℕ) → k < end → end - k ≡ suc (end - (k + 1))
bytes_left k end l = omega arith

-- A digit is read.
pub reads_digit : (most cut : ℕ) (text : Option (List ℕ)) (k end v b w : ℕ) (left rest : Option (List ℕ)) → ReadOn most cut text (end - k) v left
    → k < end → Byte left b → Rest left rest → 48 ≤ b → w ≡ with_digit cut v b → ReadOn most cut text (end - (k + 1)) w rest
reads_digit most cut None k end v b w left rest r l e f d g = tt
reads_digit most cut (Some xs) k end v b w None rest r l e f d g = absurd r
reads_digit most cut (Some xs) k end v b w (Some ys) rest (m, h) l e f d g =
    rw (f, g) (
      m ∙ ap (λ (n : ℕ). reading n cut v ys) (bytes_left k end l) ∙ reading_digit (end - (k + 1)) cut v b ys e (le-leb 48 b d),
      h ∙ ap (λ (n : ℕ). behind_number n ys) (bytes_left k end l) ∙ behind_digit (end - (k + 1)) b ys e (le-leb 48 b d),
    )

-- The number is read, and what ends it.
abbrev pub IsRead : (most cut : ℕ) (text : Option (List ℕ)) (value : ℕ) (rest : Option (List ℕ)) → Type 0
IsRead most cut text v rest = IfSome text (λ bytes. v ≡ front_number most cut bytes) × IfSome text (λ bytes. rest ≡ Some (behind_number most bytes))

-- The byte behind the digits is read.
pub reads_end : (most cut : ℕ) (text : Option (List ℕ)) (k end v b : ℕ) (left rest : Option (List ℕ)) → ReadOn most cut text (end - k) v left
    → k < end → Byte left b → Rest left rest → b < 48 → IsRead most cut text v rest
reads_end most cut None k end v b left rest r l e f d = (tt, tt)
reads_end most cut (Some xs) k end v b None rest r l e f d = absurd r
reads_end most cut (Some xs) k end v b (Some ys) rest (m, h) l e f d = (
  sym (m ∙ ap (λ (n : ℕ). reading n cut v ys) (bytes_left k end l) ∙ reading_end (end - (k + 1)) cut v b ys e (lt-leb 48 b d)),
  f ∙ ap (λ (bs : List ℕ). Some bs) (sym (h ∙ ap (λ (n : ℕ). behind_number n ys) (bytes_left k end l) ∙ behind_end (end - (k + 1)) b ys e (lt-leb 48 b d))),
)

none_left : (k end : ℕ) → end ≤ k → end - k ≡ 0
none_left k end l = omega arith

-- The most bytes are read, all of them digits.
pub reads_most : (most cut : ℕ) (text : Option (List ℕ)) (k end v : ℕ) (left : Option (List ℕ)) → ReadOn most cut text (end - k) v left → end ≤ k
    → IsRead most cut text v left
unfolding reading behind_number
reads_most most cut None k end v left r l = (tt, tt)
reads_most most cut (Some xs) k end v None r l = absurd r
reads_most most cut (Some xs) k end v (Some ys) (m, h) l =
    (sym (m ∙ ap (λ (n : ℕ). reading n cut v ys) (none_left k end l)), ap (λ (bs : List ℕ). Some bs) (sym (h ∙ ap (λ (n : ℕ). behind_number n ys) (none_left k end l))))
