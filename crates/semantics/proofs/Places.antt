-- Where the records of a sheet start, whatever their width: the laws of `place`, which stays shut everywhere else.
use mathlib.Core.Path.{◌≡◌, refl, sym, ◌∙◌, ap}
use mathlib.Core.Logic.{⊎_elim}
use mathlib.Core.List.{List, [], ◌∷◌, ◌++◌, flat_map, append_assoc}
use Prim.Native.Nat.{ℕ, zero, suc, ◌+◌, ◌*◌, ◌≤◌, ◌<◌}
use native.Mathlib.Nat.{eq-or-lt_of_le}
use native.Mathlib.Numerals.{add-one}
use native.Mathlib.Omega.{arith}
use lib.ListN.{length, get_or, length-append, get_or-append}
use lib.Seq.{get_or-append-add}
use Rattle.semantics.specs.Sheet.{Record, record_words, place}

pub place_zero : (w : ℕ) → place w 0 ≡ 4
unfolding place
place_zero w = omega arith

pub place_suc : (w n : ℕ) → place w (suc n) ≡ place w n + w
unfolding place
place_suc w n = omega arith

pub place_next : (w n : ℕ) → place w (n + 1) ≡ place w n + w
place_next w n = ap (place w) (add-one n) ∙ place_suc w n

-- A record ends where a later one starts, or before.
pub place_below : (w n m : ℕ) → n < m → place w n + w ≤ place w m
place_below w n zero h = absurd (omega arith)
place_below w n (suc m) h =
    let l : n ≤ m = omega arith in
    ⊎_elim (λ (e : n ≡ m). omega (arith, place_suc w m, ap (place w) e))
    (λ (o : n < m). omega (arith, place_suc w m, place_below w n m o)) (eq-or-lt_of_le l)

pub place_most : (w n m : ℕ) → n ≤ m → place w n ≤ place w m
place_most w n m h =
    ⊎_elim (λ (e : n ≡ m). omega (arith, ap (place w) e)) (λ (o : n < m). omega (arith, place_below w n m o)) (eq-or-lt_of_le h)

-- All records start behind the head.
pub place_head : (w n : ℕ) → 4 ≤ place w n
place_head w n = omega (arith, place_zero w, place_most w 0 n (omega arith))

-- A record that has words starts behind as many words as its number.
pub place_past : (w n : ℕ) → 0 < w → n < place w n
place_past w zero h = omega (arith, place_zero w)
place_past w (suc n) h = omega (arith, place_suc w n, place_past w n h)

-- Elements of as many words each behind four words: where they end, and word j of element i.
module _ {X : Type 0} (words : X → List ℕ) (w : ℕ) (wide : (x : X) → length (words x) ≡ w) where
  pub place_end : (xs : List X) → 4 + length (flat_map words xs) ≡ place w (length xs)
  unfolding flat_map
  place_end [] = sym (place_zero w)
  place_end (x ∷ xs) = omega (arith, length-append (words x) (flat_map words xs), wide x, place_end xs, place_suc w (length xs))

  word_at : (xs : List X) (vs : List ℕ) (d : X) (i j : ℕ) → i < length xs → j < w
      → get_or (flat_map words xs ++ vs) (w * i + j) 0 ≡ get_or (words (get_or xs i d)) j 0
  unfolding flat_map
  word_at [] vs d i j h k = absurd (omega arith)
  word_at (x ∷ xs) vs d zero j h k =
      ap (λ (l : List ℕ). get_or l (w * 0 + j) 0) (append_assoc (words x) (flat_map words xs) vs)
      ∙ ap (λ (n : ℕ). get_or (words x ++ (flat_map words xs ++ vs)) n 0) (omega arith)
      ∙ get_or-append (words x) (flat_map words xs ++ vs) 0 j (omega (arith, wide x))
  word_at (x ∷ xs) vs d (suc i) j h k =
      ap (λ (l : List ℕ). get_or l (w * suc i + j) 0) (append_assoc (words x) (flat_map words xs) vs)
      ∙ ap (λ (n : ℕ). get_or (words x ++ (flat_map words xs ++ vs)) n 0) (omega (arith, wide x))
      ∙ get_or-append-add (words x) (flat_map words xs ++ vs) (w * i + j) 0
      ∙ word_at xs vs d i j (omega arith) k

  pub place_word : (front : List ℕ) → length front ≡ 4 → (xs : List X) (vs : List ℕ) (d : X) (i j : ℕ) → i < length xs → j < w
      → get_or (front ++ (flat_map words xs ++ vs)) (place w i + j) 0 ≡ get_or (words (get_or xs i d)) j 0
  unfolding place
  place_word front four xs vs d i j h k =
      let e : place w i + j ≡ length front + (w * i + j) = omega arith in
      ap (λ (n : ℕ). get_or (front ++ (flat_map words xs ++ vs)) n 0) e
      ∙ get_or-append-add front (flat_map words xs ++ vs) (w * i + j) 0
      ∙ word_at xs vs d i j h k

-- The same of records.
pub record_wide : (r : Record) → length (record_words r) ≡ 5
unfolding record_words
record_wide r = refl

pub records_end : (rs : List Record) → 4 + length (flat_map record_words rs) ≡ place 5 (length rs)
records_end = place_end record_words 5 record_wide

-- Where the records of a sheet end at most.
pub records_limit : (n : ℕ) → n ≤ 4096 → place 5 n ≤ 20484
records_limit n h = omega (arith, place_most 5 n 4096 h, largest)
  where
    largest : place 5 4096 ≡ 20484
    largest = unfold place in refl
