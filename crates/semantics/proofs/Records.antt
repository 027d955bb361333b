-- What the check of a record tells, and the values of records.
use mathlib.Core.Path.{◌≡◌, refl, sym, ◌∙◌, ap, subst}
use mathlib.Core.Bool.{Bool, true, false, ◌&&◌}
use mathlib.Core.List.{List, [], ◌∷◌, ◌++◌, map}
use Prim.Native.Nat.{ℕ, zero, suc, ◌≤◌, ◌<◌}
use native.Mathlib.Omega.{arith}
use native.Mathlib.Nat.{zero-add}
use lib.Dec.{eqb, ltb, leb}
use lib.ListN.{length, get_or, get_or-append, get_or-eq_default}
use lib.Seq.{get_or_at}
use borrow.Author.Tests.{eqb-true, eqb-false, ltb-true, ltb-false, leb-true, lt-ltb}
use Rattle.semantics.specs.Sheet.{Record, record_of, record_words, record_tests, row, table, fits, passes, Each, GoodRecord}
use Rattle.semantics.specs.Value.{Leaf, Node, leaf, const, add, sub, neg, mul, leaf_of, node_of, no_record, record_at, fill, node_value, record_value, values, value_at}
use Rattle.semantics.proofs.Basics.{by_test, and_true, true_and}
use Rattle.semantics.proofs.Arithmetic.{add_m_lt, sub_m_lt, mul_m_lt, neg_m_lt}
use Rattle.semantics.proofs.Lists.{each_zero}
use Rattle.semantics.proofs.Passes.{fill_at, fill_length, fill_snoc}

-- The children that a node looks at are below n.
abbrev pub LowNode : ℕ → Node → Type 0
LowNode n (leaf x) = Unit {0}
LowNode n (const k) = Unit {0}
LowNode n (add l r) = (l < n) × (r < n)
LowNode n (sub l r) = (l < n) × (r < n)
LowNode n (neg x) = x < n
LowNode n (mul l r) = (l < n) × (r < n)

abbrev pub LowRecord : ℕ → Record → Type 0
LowRecord n r = LowNode n (node_of r)

pub low_more : (n m : ℕ) (k : Node) → n ≤ m → LowNode n k → LowNode m k
low_more n m (leaf x) h w = tt
low_more n m (const c) h w = tt
low_more n m (add x y) h w = (omega arith, omega arith)
low_more n m (sub x y) h w = (omega arith, omega arith)
low_more n m (neg x) h w = omega arith
low_more n m (mul x y) h w = (omega arith, omega arith)

-- The words a to d pass the tests of the kind k.
unfoldable pub fits_row : (p own : ℕ) → Record → ℕ → Bool
fits_row p own r k = passes (map (fits p own r.a) (row k)) (r.a ∷ r.b ∷ r.c ∷ r.d ∷ [])

unfoldable pub is_kind : Record → Bool
is_kind r = leb 1 r.kind && leb r.kind 9

pub good_is : (p own : ℕ) (r : Record) → passes (record_tests p own (record_words r)) (record_words r) ≡ is_kind r && fits_row p own r r.kind
unfolding record_tests record_words passes fits_row is_kind
good_is p own r = refl

-- The kinds with two children ask the same of their words.
row_two : (p own : ℕ) (r : Record) (k : ℕ) → row k ≡ row 6 → fits_row p own r k ≡ ltb r.a own && (ltb r.b own && (true && (eqb r.d 0 && true)))
unfolding fits_row
row_two p own r k e =
    ap (λ (u : List ℕ). passes (map (fits p own r.a) u) (r.a ∷ r.b ∷ r.c ∷ r.d ∷ [])) e ∙ unfold row table fits passes in refl

row_neg : (p own : ℕ) (r : Record) → fits_row p own r 8 ≡ ltb r.a own && (eqb r.b 0 && (true && (eqb r.d 0 && true)))
unfolding fits_row row table fits passes
row_neg p own r = refl

row_const : (p own : ℕ) (r : Record) → fits_row p own r 5 ≡ ltb r.a p && (eqb r.b 0 && (eqb r.c 0 && (eqb r.d 0 && true)))
unfolding fits_row row table fits passes
row_const p own r = refl

module _ (p own : ℕ) (r : Record) (h : GoodRecord p own r) where
  pub kind_good : is_kind r ≡ true
  kind_good = (and_true (is_kind r) (fits_row p own r r.kind) (sym (good_is p own r) ∙ h)).0

  -- The tests of the words a to d, for the kind that the record has.
  pub words_fit : (k : ℕ) → r.kind ≡ k → fits_row p own r k ≡ true
  words_fit k e =
      subst (λ (j : ℕ). fits_row p own r j ≡ true) e (and_true (is_kind r) (fits_row p own r r.kind) (sym (good_is p own r) ∙ h)).1

  two_low : (k : ℕ) → row k ≡ row 6 → r.kind ≡ k → (r.a < own) × (r.b < own)
  two_low k q e =
      let t = and_true (ltb r.a own) _ (sym (row_two p own r k q) ∙ words_fit k e) in
      (ltb-true _ _ t.0, ltb-true _ _ (and_true (ltb r.b own) _ t.1).0)

  one_low : r.kind ≡ 8 → r.a < own
  one_low e = ltb-true _ _ (and_true (ltb r.a own) _ (sym (row_neg p own r) ∙ words_fit 8 e)).0

  pub good_low : LowRecord own r
  unfolding node_of
  good_low =
      by_test (LowNode own) (eqb r.kind 5) (λ e. tt)
      (λ _. by_test (LowNode own) (eqb r.kind 6) (λ e. two_low 6 refl (eqb-true _ _ e))
      (λ _. by_test (LowNode own) (eqb r.kind 7) (λ e. two_low 7 (unfold row table in refl) (eqb-true _ _ e))
      (λ _. by_test (LowNode own) (eqb r.kind 8) (λ e. one_low (eqb-true _ _ e))
      (λ _. by_test (LowNode own) (eqb r.kind 9) (λ e. two_low 9 (unfold row table in refl) (eqb-true _ _ e))
      (λ _. tt)))))

-- A leaf or a constant asks nothing of the record's number.
abbrev pub Flat : Node → Type 0
Flat (leaf x) = Unit {0}
Flat (const k) = Unit {0}
Flat (add l r) = ⊥
Flat (sub l r) = ⊥
Flat (neg x) = ⊥
Flat (mul l r) = ⊥

flat_row : (p own own' : ℕ) (r : Record) (k : ℕ) → k < 6 → fits_row p own r k ≡ fits_row p own' r k
unfolding fits_row row table fits passes
flat_row p own own' r zero h = refl
flat_row p own own' r (suc zero) h = refl
flat_row p own own' r (suc (suc zero)) h = refl
flat_row p own own' r (suc (suc (suc zero))) h = refl
flat_row p own own' r (suc (suc (suc (suc zero)))) h = refl
flat_row p own own' r (suc (suc (suc (suc (suc zero))))) h = refl
flat_row p own own' r (suc (suc (suc (suc (suc (suc k)))))) h = absurd (omega arith)

pub flat_kind : (r : Record) → is_kind r ≡ true → Flat (node_of r) → r.kind < 6
unfolding node_of is_kind
flat_kind r h =
    let u : r.kind ≤ 9 = leb-true _ _ (and_true (leb 1 r.kind) (leb r.kind 9) h).1 in
    let P : Node → Type 0 = λ n. Flat n → r.kind < 6 in
    by_test P (eqb r.kind 5) (λ e w. omega (arith, eqb-true r.kind 5 e))
    (λ e₅. by_test P (eqb r.kind 6) (λ e w. absurd w)
    (λ e₆. by_test P (eqb r.kind 7) (λ e w. absurd w)
    (λ e₇. by_test P (eqb r.kind 8) (λ e w. absurd w)
    (λ e₈. by_test P (eqb r.kind 9) (λ e w. absurd w)
    (λ e₉ w. omega (arith, eqb-false r.kind 6 e₆, eqb-false r.kind 7 e₇, eqb-false r.kind 8 e₈, eqb-false r.kind 9 e₉))))))

pub flat_good : (p own own' : ℕ) (r : Record) → GoodRecord p own r → Flat (node_of r) → GoodRecord p own' r
flat_good p own own' r h w =
    good_is p own' r
    ∙ ap (λ (t : Bool). is_kind r && t) (sym (flat_row p own own' r r.kind (flat_kind r (kind_good p own r h) w)))
    ∙ sym (good_is p own r) ∙ h

-- The records that the rules make.
pub two_good : (p n k l r g : ℕ) → (leb 1 k && leb k 9) ≡ true → row k ≡ row 6 → l < n → r < n → GoodRecord p n (record_of k l r g 0)
two_good p n k l r g u q hl hr =
    good_is p n (record_of k l r g 0)
    ∙ true_and (is_kind (record_of k l r g 0)) _ (unfold is_kind in u)
    (row_two p n (record_of k l r g 0) k q ∙ rw (lt-ltb l n hl, lt-ltb r n hr))

pub neg_good : (p n x g : ℕ) → x < n → GoodRecord p n (record_of 8 x 0 g 0)
unfolding is_kind
neg_good p n x g h = good_is p n (record_of 8 x 0 g 0) ∙ row_neg p n (record_of 8 x 0 g 0) ∙ rw (lt-ltb x n h)

pub const_good : (p n k : ℕ) → k < p → GoodRecord p n (record_of 5 k 0 0 0)
unfolding is_kind
const_good p n k h = good_is p n (record_of 5 k 0 0 0) ∙ row_const p n (record_of 5 k 0 0 0) ∙ rw (lt-ltb k p h)

-- Good records look at earlier ones only.
pub each_low : (p n : ℕ) (rs : List Record) → Each (GoodRecord p) n rs → Each LowRecord n rs
each_low p n [] w = tt
each_low p n (r ∷ rs) w = (good_low p n r w.0, each_low p (suc n) rs w.1)

module _ (p : ℕ) (A : Leaf → ℕ) where
  node_low : (n : ℕ) (k : Node) → LowNode n k → (f g : ℕ → ℕ) → ((i : ℕ) → i < n → f i ≡ g i) → node_value p A k f ≡ node_value p A k g
  unfolding node_value
  node_low n (leaf x) w f g h = refl
  node_low n (const k) w f g h = refl
  node_low n (add l r) w f g h = cc (h l w.0, h r w.1)
  node_low n (sub l r) w f g h = cc (h l w.0, h r w.1)
  node_low n (neg x) w f g h = cc (h x w)
  node_low n (mul l r) w f g h = cc (h l w.0, h r w.1)

  record_low : (n : ℕ) (r : Record) → LowRecord n r → (f g : ℕ → ℕ) → ((i : ℕ) → i < n → f i ≡ g i) → record_value p A r f ≡ record_value p A r g
  unfolding record_value
  record_low n r = node_low n (node_of r)

  -- A record's value is made of its children's.
  pub value_at_lem : (rs : List Record) → Each LowRecord 0 rs → (i : ℕ) → i < length rs
      → value_at p A rs i ≡ node_value p A (node_of (record_at rs i)) (value_at p A rs)
  unfolding value_at values record_at record_value
  value_at_lem rs w i h =
      ap (λ (k : ℕ). get_or (fill (record_value p A) 0 [] rs) k 0) (sym (zero-add i))
      ∙ fill_at (record_value p A) 0 LowRecord record_low 0 [] rs no_record i refl w h

  length_values : (rs : List Record) → length (values p A rs) ≡ length rs
  unfolding values
  length_values rs = fill_length (record_value p A) 0 [] rs ∙ zero-add (length rs)

  -- One more record: the values before it, and its own.
  pub value_old : (rs : List Record) (r : Record) (i : ℕ) → i < length rs → value_at p A (rs ++ (r ∷ [])) i ≡ value_at p A rs i
  unfolding value_at
  value_old rs r i h = unfold values in
      (ap (λ (l : List ℕ). get_or l i 0) (fill_snoc (record_value p A) 0 [] rs r)
      ∙ get_or-append (values p A rs) (record_value p A r (λ j. get_or (values p A rs) j 0) ∷ []) 0 i (omega (arith, length_values rs)))

  pub value_new : (rs : List Record) (r : Record) → value_at p A (rs ++ (r ∷ [])) (length rs) ≡ node_value p A (node_of r) (value_at p A rs)
  unfolding value_at record_value
  value_new rs r = unfold values in
      (ap (λ (l : List ℕ). get_or l (length rs) 0) (fill_snoc (record_value p A) 0 [] rs r)
      ∙ get_or_at (values p A rs) (record_value p A r (λ j. get_or (values p A rs) j 0)) [] 0 (length rs) (length_values rs))

-- Values are below p.
module _ (p : ℕ) (big : 1 < p) (A : Leaf → ℕ) (small : (x : Leaf) → A x < p) where
  pub good_value : (own : ℕ) (r : Record) → GoodRecord p own r → (f : ℕ → ℕ) → node_value p A (node_of r) f < p
  unfolding node_of
  good_value own r h f =
      let P : Node → Type 0 = λ n. node_value p A n f < p in
      by_test P (eqb r.kind 5)
      (λ e. unfold node_value in (ltb-true _ _ (and_true (ltb r.a p) _ (sym (row_const p own r) ∙ words_fit p own r h 5 (eqb-true _ _ e))).0))
      (λ _. by_test P (eqb r.kind 6) (λ e. unfold node_value in (add_m_lt p big (f r.a) (f r.b)))
      (λ _. by_test P (eqb r.kind 7) (λ e. unfold node_value in (sub_m_lt p big (f r.a) (f r.b)))
      (λ _. by_test P (eqb r.kind 8) (λ e. unfold node_value in (neg_m_lt p big (f r.a)))
      (λ _. by_test P (eqb r.kind 9) (λ e. unfold node_value in (mul_m_lt p big (f r.a) (f r.b)))
      (λ _. unfold node_value in (small (leaf_of r)))))))

  pub value_small : (rs : List Record) → Each (GoodRecord p) 0 rs → (i : ℕ) → value_at p A rs i < p
  value_small rs w i = go (ltb i (length rs)) refl
    where
      go : (t : Bool) → ltb i (length rs) ≡ t → value_at p A rs i < p
      go true e =
          subst (λ (x : ℕ). x < p) (sym (value_at_lem p A rs (each_low p 0 rs w) i (ltb-true _ _ e)))
          (good_value i (record_at rs i) (unfold record_at in (each_zero (GoodRecord p) rs i no_record w (ltb-true _ _ e))) (value_at p A rs))
      go false e = unfold value_at in
          (subst (λ (x : ℕ). x < p) (sym (get_or-eq_default (values p A rs) 0 (omega (arith, length_values p A rs, ltb-false i (length rs) e)))) (omega arith))
