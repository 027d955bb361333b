-- Sheets and their words (01, "The sheet").
use Rattle.std.specs.Prelude.{◌≡◌, Bool, true, false, cond, ◌&&◌, ◌||◌, ℕ, suc, ◌+◌, ◌*◌, ◌-◌, eqb, leb, ltb, length, get_or, replicate}
use mathlib.Core.List.{List, [], ◌∷◌, ◌++◌, map, flat_map}

-- "records of five words: kind, a, b, c, d"
pub record Record : Type 0 where
  pub kind : ℕ
  pub a : ℕ
  pub b : ℕ
  pub c : ℕ
  pub d : ℕ

-- An interaction: bus, count weight, the count's record, and the message, whose length the words tell.
pub record Interaction : Type 0 where
  pub bus : ℕ
  pub weight : ℕ
  pub count : ℕ
  pub message : List ℕ

pub record Sheet : Type 0 where
  pub records : List Record
  pub constraints : List ℕ
  pub interactions : List Interaction

abbrev pub record_of : ℕ → ℕ → ℕ → ℕ → ℕ → Record
record_of k a b c d = record { kind = k; a = a; b = b; c = c; d = d }

-- The words of each part, and of the whole: head, records, constraints, interactions.
unfoldable pub record_words : Record → List ℕ
record_words r = r.kind ∷ r.a ∷ r.b ∷ r.c ∷ r.d ∷ []

unfoldable pub interaction_words : Interaction → List ℕ
interaction_words x = x.bus ∷ x.weight ∷ x.count ∷ length x.message ∷ x.message

unfoldable pub head_words : Sheet → List ℕ
head_words s = 1 ∷ length s.records ∷ length s.constraints ∷ length s.interactions ∷ []

unfoldable pub encode : Sheet → List ℕ
encode s = head_words s ++ (flat_map record_words s.records ++ (s.constraints ++ flat_map interaction_words s.interactions))

-- "L is the sheet's length without spare words."
unfoldable pub length_of : Sheet → ℕ
length_of s = length (encode s)

-- Where record n starts in a sheet whose records have w words each: behind the four words of the head.
unfoldable pub place : (w n : ℕ) → ℕ
place w n = 4 + w * n

-- How a kind uses a word: not at all, as an entry, a part, an offset, any word, a constant, or a child's number.
abbrev pub unused : ℕ
unused = 0

abbrev pub entry : ℕ
entry = 1

abbrev pub part : ℕ
part = 2

abbrev pub offset : ℕ
offset = 3

abbrev pub any_word : ℕ
any_word = 4

abbrev pub constant : ℕ
constant = 5

abbrev pub child : ℕ
child = 6

-- "a table of nine rows says which of a to d each kind uses"
unfoldable pub table : List (List ℕ)
table =
    (entry ∷ part ∷ offset ∷ any_word ∷ [])
    ∷ (unused ∷ unused ∷ unused ∷ unused ∷ [])
    ∷ (unused ∷ unused ∷ unused ∷ unused ∷ [])
    ∷ (unused ∷ unused ∷ unused ∷ unused ∷ [])
    ∷ (constant ∷ unused ∷ unused ∷ unused ∷ [])
    ∷ (child ∷ child ∷ any_word ∷ unused ∷ [])
    ∷ (child ∷ child ∷ any_word ∷ unused ∷ [])
    ∷ (child ∷ unused ∷ any_word ∷ unused ∷ [])
    ∷ (child ∷ child ∷ any_word ∷ unused ∷ [])
    ∷ []

-- The row of a kind, 1 to 9.
unfoldable pub row : ℕ → List ℕ
row kind = get_or table (kind - 1) []

-- "An unused word is 0"; an entry is 0 to 3; "b part (0 unless main), c offset (0 for 2 and 3), d column, any word"; "a below p";
-- "A child's number is below its record's own." `own` is the record's number, `a` its word a.
unfoldable pub fits : (p own a how w : ℕ) → Bool
fits p own a how w =
    cond (eqb how unused) (eqb w 0)
    (cond (eqb how entry) (leb w 3)
    (cond (eqb how part) (eqb a 1 || eqb w 0)
    (cond (eqb how offset) (leb a 1 || eqb w 0)
    (cond (eqb how constant) (ltb w p)
    (cond (eqb how child) (ltb w own) true)))))

-- The tests of a record's words in order; what the later ones ask follows from the kind and the word a, the first two of `ws`.
unfoldable pub record_tests : (p own : ℕ) → List ℕ → List (ℕ → Bool)
record_tests p own ws = (λ w. leb 1 w && leb w 9) ∷ map (fits p own (get_or ws 1 0)) (row (get_or ws 0 0))

-- A word that names one of n records.
unfoldable pub refers : ℕ → ℕ → Bool
refers n w = ltb w n

-- "bus (0 to 65,535), count weight (any), count's record, message length (0 to 63), then that many records"
unfoldable pub interaction_tests : (n : ℕ) → List ℕ → List (ℕ → Bool)
interaction_tests n ws =
    (λ w. leb w 65535) ∷ (λ w. true) ∷ refers n ∷ (λ w. leb w 63) ∷ replicate (get_or ws 3 0) (refers n)

-- "form (1), E records (0 to 4,096), C constraints (0 to 1,024), I interactions (0 to 1,024)"
unfoldable pub head_tests : List (ℕ → Bool)
head_tests = (λ w. eqb w 1) ∷ (λ w. leb w 4096) ∷ (λ w. leb w 1024) ∷ (λ w. leb w 1024) ∷ []

-- Each word passes its test, and there are as many.
unfoldable pub passes : List (ℕ → Bool) → List ℕ → Bool
passes [] [] = true
passes [] (w ∷ ws) = false
passes (t ∷ ts) [] = false
passes (t ∷ ts) (w ∷ ws) = t w && passes ts ws

-- A property of each element of a list, at its place counted from n.
module _ {X : Type 0} (P : ℕ → X → Type 0) where
  abbrev pub Each : ℕ → List X → Type 0
  Each n [] = Unit {0}
  Each n (x ∷ xs) = P n x × Each (suc n) xs

-- A record that may stand as number `own`; a number that names a record; an interaction whose words may stand.
abbrev pub GoodRecord : (p own : ℕ) → Record → Type 0
GoodRecord p own r = passes (record_tests p own (record_words r)) (record_words r) ≡ true

abbrev pub Named : (n : ℕ) → List ℕ → Type 0
Named n ws = passes (replicate (length ws) (refers n)) ws ≡ true

abbrev pub GoodInteraction : (n : ℕ) → Interaction → Type 0
GoodInteraction n x = passes (interaction_tests n (interaction_words x)) (interaction_words x) ≡ true

-- A sheet inside the limits.
pub record Inside (p : ℕ) (s : Sheet) : Type 0 where
  pub head : passes head_tests (head_words s) ≡ true
  pub records : Each (GoodRecord p) 0 s.records
  pub constraints : Named (length s.records) s.constraints
  pub interactions : Each (λ i. GoodInteraction (length s.records)) 0 s.interactions
