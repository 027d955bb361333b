-- Packed variables (01, "Packing and expanding").
use Rattle.std.specs.Prelude.{Bool, false, cond, ◌&&◌, List, ◌∷◌, map, ℕ, ◌+◌, ◌*◌, ◌-◌, ◌/◌, ◌%◌, eqb, leb, ltb, get_or}
use Rattle.semantics.specs.Answer.{Answer, good, refused, and_then}
use Rattle.semantics.specs.Sheet.{Record, record_of, record_words, fits, row}
use Rattle.semantics.specs.Check.{reading, scan_words, judged}

-- "bits 0 to 3 type, 4 to 11 part, 12 to 15 offset, 16 to 31 column. Types: 0 preprocessed, 1 main, 3 public, 8 first, 9 last, 10 transition."
unfoldable pub packed : Record → ℕ
packed r = cond (eqb r.kind 1) (r.a + 16 * r.b + 4096 * r.c + 65536 * r.d) (r.kind + 6)

-- Why a variable or row mark has no packed number: 8 to 11, the lower first, or 0.
unfoldable pub pack_fault : Record → ℕ
pack_fault r =
    cond (eqb r.kind 1)
    (cond (ltb 65535 r.d) 8 (cond (eqb r.a 2) 9 (cond (ltb 255 r.b) 10 (cond (ltb 15 r.c) 11 0))))
    0

-- "5 when the kind isn't 1 to 4 or a word is wrong (place: that word, 0 to 4)"; those kinds have no constant and no child.
unfoldable pub leaf_tests : List ℕ → List (ℕ → Bool)
leaf_tests ws = (λ w. leb 1 w && leb w 4) ∷ map (fits 0 0 (get_or ws 1 0)) (row (get_or ws 0 0))

-- "then 8 to 11, place 0"
unfoldable pub pack_record : Record → Answer ℕ
pack_record r = cond (eqb (pack_fault r) 0) (good (packed r)) (refused (pack_fault r) 0)

unfoldable pub pack : Record → Answer ℕ
pack r = and_then (judged (scan_words 5 (leaf_tests (record_words r)) (reading 0 (record_words r))) r) pack_record

-- The record whose words the bits of a number are.
unfoldable pub unpacked : ℕ → Record
unpacked n =
    cond (leb 8 (n % 16)) (record_of (n % 16 - 6) 0 0 0 0)
    (record_of 1 (n % 16) (n / 16 % 256) (n / 4096 % 16) (n / 65536))

unfoldable pub hands_out : Answer ℕ → ℕ → Bool
hands_out (good m) n = eqb m n
hands_out (refused m k) n = false

-- "it gives the five words, or 5, place 0, for a number that no packing hands out"
unfoldable pub unpack : ℕ → Answer Record
unpack n = cond (hands_out (pack (unpacked n)) n) (good (unpacked n)) (refused 5 0)
