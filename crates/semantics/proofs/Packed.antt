-- Packing and unpacking undo each other.
use mathlib.Core.Path.{◌≡◌, refl, sym, ◌∙◌, ap, subst}
use mathlib.Core.Logic.{◌⊎◌, inl, inr}
use mathlib.Core.Bool.{Bool, true, ◌&&◌}
use mathlib.Core.List.{List, [], ◌∷◌, map}
use Prim.Native.Nat.{ℕ, zero, suc, ◌+◌, ◌*◌, ◌-◌, ◌/◌, ◌%◌, ◌≤◌, ◌<◌}
use native.Mathlib.Omega.{arith}
use lib.Dec.{eqb, leb, ltb}
use lib.ListN.{length, take}
use borrow.Author.Tests.{leb-true, le-leb, lt-leb, eqb-true, eqb-false, eq-eqb, ne_eqb}
use Rattle.semantics.specs.Answer.{Answer, good, refused, and_then}
use Rattle.semantics.specs.Sheet.{Record, record_of, record_words, row, table, fits, record_tests, passes, GoodRecord}
use Rattle.semantics.specs.Check.{Scan, reading, stopped, scan_words, judged}
use Rattle.semantics.specs.Packing.{packed, pack_fault, leaf_tests, pack_record, pack, unpacked, hands_out, unpack}
use Rattle.semantics.specs.Value.{Leaf, Node, leaf, const, add, sub, neg, mul, leaf_of, node_of}
use Rattle.semantics.proofs.Basics.{by_test, and_true, true_and, not_both, cond_true, cond_false, tests}

-- A scan goes on where the words pass, and stops elsewhere.
scan_by : (P : Scan → Type 0) (n : ℕ) (ts : List (ℕ → Bool)) (i : ℕ) (ws : List ℕ)
    → ((j : ℕ) (vs : List ℕ) → passes ts (take (length ts) ws) ≡ true → P (reading j vs))
    → ((m k : ℕ) → P (stopped m k)) → P (scan_words n ts (reading i ws))
unfolding scan_words passes
scan_by P n [] i ws pass stop = pass i ws refl
scan_by P n (t ∷ ts) i [] pass stop = stop 4 i
scan_by P n (t ∷ ts) i (w ∷ ws) pass stop =
    by_test P (t w) (λ e. scan_by P n ts (suc i) ws (λ j vs h. pass j vs (rw e h)) stop) (λ e. stop n i)

passes_take : (ts : List (ℕ → Bool)) (ws : List ℕ) → passes ts ws ≡ true → passes ts (take (length ts) ws) ≡ true
unfolding passes
passes_take [] [] h = refl
passes_take [] (w ∷ ws) h = refl
passes_take (t ∷ ts) [] h = h
passes_take (t ∷ ts) (w ∷ ws) h =
    let both = and_true (t w) (passes ts ws) h in
    true_and (t w) (passes ts (take (length ts) ws)) both.0 (passes_take ts ws both.1)

-- What packing needs of a variable's words, and of a row mark's.
abbrev LeafWords : (k a b c d : ℕ) → Type 0
LeafWords k a b c d = ((k ≡ 1) × (a ≤ 3)) ⊎ ((2 ≤ k) × (k ≤ 4) × (a ≡ 0) × (b ≡ 0) × (c ≡ 0) × (d ≡ 0))

abbrev LeafRecord : Record → Type 0
LeafRecord r = LeafWords r.kind r.a r.b r.c r.d

mark_words : (k a b c d : ℕ) → 2 ≤ k → k ≤ 4 → eqb a 0 && (eqb b 0 && (eqb c 0 && (eqb d 0 && true))) ≡ true → LeafWords k a b c d
mark_words k a b c d l h e =
    let ea = and_true (eqb a 0) _ e in
    let eb = and_true (eqb b 0) _ ea.1 in
    let ec = and_true (eqb c 0) _ eb.1 in
    let ed = and_true (eqb d 0) _ ec.1 in
    inr (l, h, eqb-true a 0 ea.0, eqb-true b 0 eb.0, eqb-true c 0 ec.0, eqb-true d 0 ed.0)

-- The kinds 1 to 4 have no constant and no child, so that neither the modulus nor the record's number matters.
leaf_words : (p own top k a b c d : ℕ) → k ≤ 4 → let ts : List (ℕ → Bool) = (λ w. leb 1 w && leb w top) ∷ map (fits p own a) (row k) in
    passes ts (take (length ts) (k ∷ a ∷ b ∷ c ∷ d ∷ [])) ≡ true → LeafWords k a b c d
unfolding passes fits row table
leaf_words p own top zero a b c d l h = not_both h refl
leaf_words p own top (suc zero) a b c d l h =
    let rest = (and_true (leb 1 top) _ h).1 in
    inl (refl, leb-true a 3 (and_true (leb a 3) _ rest).0)
leaf_words p own top (suc (suc zero)) a b c d l h = mark_words 2 a b c d (omega arith) (omega arith) (and_true (leb 2 top) _ h).1
leaf_words p own top (suc (suc (suc zero))) a b c d l h = mark_words 3 a b c d (omega arith) (omega arith) (and_true (leb 3 top) _ h).1
leaf_words p own top (suc (suc (suc (suc zero)))) a b c d l h = mark_words 4 a b c d (omega arith) (omega arith) (and_true (leb 4 top) _ h).1
leaf_words p own top (suc (suc (suc (suc (suc k))))) a b c d l h = absurd (omega arith)

-- What the bits of a packed number are.
abbrev bits : (a b c d : ℕ) → ℕ
bits a b c d = a + 16 * b + 4096 * c + 65536 * d

module _ (a b c d : ℕ) (ha : a ≤ 3) (hb : b ≤ 255) (hc : c ≤ 15) where
  bits_entry : bits a b c d % 16 ≡ a
  bits_entry = omega arith

  bits_part : bits a b c d / 16 % 256 ≡ b
  bits_part = omega arith

  bits_offset : bits a b c d / 4096 % 16 ≡ c
  bits_offset = omega arith

  bits_column : bits a b c d / 65536 ≡ d
  bits_column = omega arith

  unpacked_variable : unpacked (bits a b c d) ≡ record_of 1 a b c d
  unfolding unpacked
  unpacked_variable =
      cond_false (leb 8 (bits a b c d % 16)) _ _ (lt-leb 8 (bits a b c d % 16) (omega (arith, bits_entry)))
      ∙ (λ i. record_of 1 (bits_entry i) (bits_part i) (bits_offset i) (bits_column i))

unpacked_mark : (k : ℕ) → 2 ≤ k → k ≤ 4 → unpacked (k + 6) ≡ record_of k 0 0 0 0
unfolding unpacked
unpacked_mark k h l =
    let e : (k + 6) % 16 - 6 ≡ k = omega arith in
    cond_true (leb 8 ((k + 6) % 16)) _ _ (le-leb 8 ((k + 6) % 16) (omega arith)) ∙ (λ i. record_of (e i) 0 0 0 0)

-- A variable with no fault fits its bits.
no_fault : (r : Record) → r.kind ≡ 1 → pack_fault r ≡ 0 → (r.d ≤ 65535) × (r.b ≤ 255) × (r.c ≤ 15)
unfolding pack_fault
no_fault r k =
    let P : ℕ → Type 0 = λ n. n ≡ 0 → (r.d ≤ 65535) × (r.b ≤ 255) × (r.c ≤ 15) in
    rw (eq-eqb r.kind 1 k)
    (by_test P (ltb 65535 r.d) (λ e h. absurd (omega arith))
    (λ d. by_test P (eqb r.a 2) (λ e h. absurd (omega arith))
    (λ a. by_test P (ltb 255 r.b) (λ e h. absurd (omega arith))
    (λ b. by_test P (ltb 15 r.c) (λ e h. absurd (omega arith)) (λ c h. omega tests)))))

-- A leaf with no fault comes back from its packed number, which is a word.
packed_leaf : (r : Record) → LeafRecord r → pack_fault r ≡ 0 → (unpacked (packed r) ≡ r) × (packed r < 4294967296)
unfolding packed
packed_leaf r (inl h) e =
    let f = no_fault r h.0 e in
    let k : 1 ≡ r.kind = sym h.0 in
    rw (cond_true (eqb r.kind 1) (bits r.a r.b r.c r.d) (r.kind + 6) (eq-eqb r.kind 1 h.0))
    (unpacked_variable r.a r.b r.c r.d h.1 f.1 f.2 ∙ (λ i. record_of (k i) r.a r.b r.c r.d), omega arith)
packed_leaf r (inr h) e =
    let a : 0 ≡ r.a = omega arith in
    let b : 0 ≡ r.b = omega arith in
    let c : 0 ≡ r.c = omega arith in
    let d : 0 ≡ r.d = omega arith in
    rw (cond_false (eqb r.kind 1) (bits r.a r.b r.c r.d) (r.kind + 6) (ne_eqb r.kind 1 (omega arith)))
    (unpacked_mark r.kind h.0 h.1 ∙ (λ i. record_of r.kind (a i) (b i) (c i) (d i)), omega arith)

-- A result, of an answer that is one.
abbrev IsGood : {X : Type 0} → Answer X → X → Type 0
IsGood (good x) y = x ≡ y
IsGood (refused m k) y = ⊥

is_good : {X : Type 0} (a : Answer X) (y : X) → a ≡ good y → IsGood a y
is_good a y e = subst (λ x. IsGood x y) (sym e) refl

-- What packs is a leaf with no fault.
kind_low : (top k : ℕ) (u : Bool) → (leb 1 k && leb k top) && u ≡ true → k ≤ top
kind_low top k u h = leb-true k top (and_true (leb 1 k) (leb k top) (and_true (leb 1 k && leb k top) u h).0).1

pack_leaf : (r : Record) (n : ℕ) → pack r ≡ good n → LeafRecord r × (pack_fault r ≡ 0) × (packed r ≡ n)
unfolding pack and_then judged pack_record leaf_tests record_words passes
pack_leaf r n e =
    scan_by (λ (s : Scan). IsGood (and_then (judged s r) pack_record) n → LeafRecord r × (pack_fault r ≡ 0) × (packed r ≡ n))
    5 (leaf_tests (record_words r)) 0 (record_words r)
    (λ j vs h. at_end (leaf_words 0 0 4 r.kind r.a r.b r.c r.d (kind_low 4 r.kind _ h) h)) (λ m k g. absurd g)
    (is_good (pack r) n e)
  where
    at_end : LeafRecord r → IsGood (pack_record r) n → LeafRecord r × (pack_fault r ≡ 0) × (packed r ≡ n)
    at_end l =
        by_test (λ (x : Answer ℕ). IsGood x n → LeafRecord r × (pack_fault r ≡ 0) × (packed r ≡ n)) (eqb (pack_fault r) 0)
        (λ f g. (l, eqb-true (pack_fault r) 0 f, g)) (λ f g. absurd g)

pub pack_word : (r : Record) (n : ℕ) → pack r ≡ good n → n < 4294967296
pack_word r n e =
    let h = pack_leaf r n e in
    let below = (packed_leaf r h.0 h.1).1 in
    omega (arith, h.2)

pack_back : (r : Record) (n : ℕ) → pack r ≡ good n → unpacked n ≡ r
pack_back r n e =
    let h = pack_leaf r n e in
    subst (λ (m : ℕ). unpacked m ≡ r) h.2 (packed_leaf r h.0 h.1).0

-- A number that its own record packs to.
hands_out_lem : (x : Answer ℕ) (n : ℕ) → hands_out x n ≡ true → x ≡ good n
unfolding hands_out
hands_out_lem (good m) n e = ap {B = Answer ℕ} good (eqb-true m n e)
hands_out_lem (refused m k) n e = not_both e refl

pub pack_unpack : (r : Record) (n : ℕ) → pack r ≡ good n → unpack n ≡ good r
unfolding unpack hands_out
pack_unpack r n e = rw (pack_back r n e, e, eq-eqb n n refl)

pub unpack_pack : (n : ℕ) (r : Record) → unpack n ≡ good r → pack r ≡ good n
unfolding unpack
unpack_pack n r =
    by_test (λ (x : Answer Record). x ≡ good r → pack r ≡ good n) (hands_out (pack (unpacked n)) n)
    (λ h e. subst (λ (s : Record). pack s ≡ good n) (is_good (good (unpacked n)) r e) (hands_out_lem (pack (unpacked n)) n h))
    (λ h e. absurd (is_good (refused 5 0) r e))

pub unpack_none : (n : ℕ) → ((r : Record) → pack r ≡ good n → ⊥) → unpack n ≡ refused 5 0
unfolding unpack
unpack_none n h =
    by_test (λ (x : Answer Record). x ≡ refused 5 0) (hands_out (pack (unpacked n)) n)
    (λ e. absurd (h (unpacked n) (hands_out_lem (pack (unpacked n)) n e))) (λ e. refl)

-- A node that is a leaf, of a record inside the limits.
abbrev IsLeaf : Node → Leaf → Type 0
IsLeaf (leaf y) x = y ≡ x
IsLeaf (const k) x = ⊥
IsLeaf (add l r) x = ⊥
IsLeaf (sub l r) x = ⊥
IsLeaf (neg c) x = ⊥
IsLeaf (mul l r) x = ⊥

leaf_kind : (r : Record) (x : Leaf) → r.kind ≤ 9 → node_of r ≡ leaf x → (r.kind ≤ 4) × (leaf_of r ≡ x)
unfolding node_of
leaf_kind r x h e =
    let P : Node → Type 0 = λ n. IsLeaf n x → (r.kind ≤ 4) × (leaf_of r ≡ x) in
    (by_test P (eqb r.kind 5) (λ t l. absurd l)
    (λ n5. by_test P (eqb r.kind 6) (λ t l. absurd l)
    (λ n6. by_test P (eqb r.kind 7) (λ t l. absurd l)
    (λ n7. by_test P (eqb r.kind 8) (λ t l. absurd l)
    (λ n8. by_test P (eqb r.kind 9) (λ t l. absurd l) (λ n9 l. (omega (arith, eqb-false), l)))))))
    (subst (λ (n : Node). IsLeaf n x) (sym e) refl)

module _ (p own : ℕ) (r : Record) (x : Leaf) (inside : GoodRecord p own r) (node : node_of r ≡ leaf x) (fault : pack_fault r ≡ 0) where
  pub packed_back : unpacked (packed r) ≡ r
  unfolding record_tests record_words passes
  packed_back =
      let low = (leaf_kind r x (kind_low 9 r.kind _ inside) node).0 in
      let words = passes_take (record_tests p own (record_words r)) (record_words r) inside in
      (packed_leaf r (leaf_words p own 9 r.kind r.a r.b r.c r.d low words) fault).0

  pub leaf_back : leaf_of (unpacked (packed r)) ≡ x
  unfolding record_tests record_words passes
  leaf_back = ap leaf_of packed_back ∙ (leaf_kind r x (kind_low 9 r.kind _ inside) node).1
