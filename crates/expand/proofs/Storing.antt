-- A list stored in the pool: what stands there then, and what the walk holds.
use mathlib.Core.Path.{◌≡◌, refl, sym, ap, subst, ◌∙◌}
use mathlib.Core.Logic.{◌⊎◌, inl, inr}
use mathlib.Core.Bool.{Bool, true, false}
use mathlib.Core.List.{List, [], ◌∷◌, ◌++◌, append-nil}
use Prim.Native.Nat.{ℕ, ◌+◌, ◌*◌, ◌-◌, ◌≤◌, ◌<◌}
use native.Mathlib.Omega.{arith}
use lib.Dec.{eqb}
use lib.ListN.{length, get_or, set, take, drop, length-set, length-append, length-drop, take-append-drop, drop_of_length-le, get_or-append}
use lib.Seq.{length-take-le, take_all, take_at, drop_at, drop-drop, get_or-take, get_or-set_same, get_or-set_other, drop-set-lt, take-append-le, drop-append-le}
use borrow.Author.Tests.{eqb-false, eq-eqb, ne_eqb, le-leb, lt-leb}
use Rattle.semantics.specs.Arithmetic.{prime}
use Rattle.semantics.specs.Answer.{good, refused, and_then}
use Rattle.semantics.specs.Check.{read_sheet, check}
use Rattle.semantics.specs.Walk.{member}
use Rattle.semantics.specs.Monomial.{Monomial, list_at}
use Rattle.semantics.specs.Expand.{list_size, record_fault, expand_record, expand_all}
use Rattle.semantics.specs.Lists.{All}
use Rattle.semantics.proofs.Basics.{by_test, not_both}
use Rattle.semantics.proofs.Members.{mem_cases}
use Rattle.semantics.proofs.Orders.{distinct_length}
use Rattle.std.specs.Prelude.{Ok, Err}
use Rattle.answers.specs.declared.Refusal.{Refusal}
use Rattle.answers.specs.declared.Reason.{Reason}
use Rattle.answers.specs.Replies.{number_of}
use Rattle.records.specs.Access.{records_of}
use Rattle.records.specs.Orders.{Order}
use Rattle.records.proofs.Steps.{few_records}
use Rattle.monomial.specs.Words.{list_words, Fits, Stored}
use Rattle.expand.specs.Walking.{PoolHolds, with_list, Storing, Stores}
use Rattle.monomial.proofs.ListLaws.{words_length}
use Rattle.monomial.proofs.Sizes.{size_small}

-- What the writer of the free tail says of the whole pool.
pub tail_written : (P Y W : List ℕ) (used size : ℕ) → Y ≡ W ++ drop size (take (length P - used) (drop used P))
    → take used P ++ (Y ++ drop (length P - used) (drop used P)) ≡ take used P ++ (W ++ drop (used + size) P)
tail_written P Y W used size e =
    let l : length (drop used P) ≤ length P - used = omega (arith, length-drop used P) in
    let a : take (length P - used) (drop used P) ≡ drop used P = take_all (length P - used) (drop used P) l in
    let b : drop (length P - used) (drop used P) ≡ [] = drop_of_length-le (drop used P) l in
    rw (b, append-nil Y, e, a, drop-drop size used P)

-- The pool with a list behind the words that were taken, and its place in the two words of record r.
module _ (P : List ℕ) (r used : ℕ) (l : List Monomial) (head : 2 * r + 2 ≤ used) (room : used + list_size l ≤ length P) where
  abbrev N : ℕ
  N = list_size l

  abbrev P₁ : List ℕ
  P₁ = take used P ++ (list_words l ++ drop (used + N) P)

  abbrev P' : List ℕ
  P' = with_list P r used l

  front : length (take used P) ≡ used
  front = length-take-le used P (omega arith)

  written_length : length P₁ ≡ length P
  written_length =
      length-append (take used P) (list_words l ++ drop (used + N) P)
      ∙ omega (arith, front, length-append (list_words l) (drop (used + N) P), words_length l, length-drop (used + N) P)

  pub with_length : length P' ≡ length P
  with_length = length-set (set P₁ (2 * r) used) (2 * r + 1) (length l) ∙ length-set P₁ (2 * r) used ∙ written_length

  -- Other words before the free ones stay.
  with_word_lem : (j : ℕ) → j < used → (j ≡ 2 * r → ⊥) → (j ≡ 2 * r + 1 → ⊥) → get_or P' j 0 ≡ get_or P j 0
  with_word_lem j k n m =
      get_or-set_other (set P₁ (2 * r) used) (2 * r + 1) j (length l) 0 m
      ∙ get_or-set_other P₁ (2 * r) j used 0 n
      ∙ get_or-append (take used P) (list_words l ++ drop (used + N) P) 0 j (omega (arith, front))
      ∙ get_or-take used P j 0 k

  with_start : get_or P' (2 * r) 0 ≡ used
  with_start =
      get_or-set_other (set P₁ (2 * r) used) (2 * r + 1) (2 * r) (length l) 0 (λ e. omega arith)
      ∙ get_or-set_same P₁ (2 * r) used 0 (omega (arith, written_length))

  with_count : get_or P' (2 * r + 1) 0 ≡ length l
  with_count = get_or-set_same (set P₁ (2 * r) used) (2 * r + 1) (length l) 0 (omega (arith, length-set P₁ (2 * r) used, written_length))

  with_drop : (k : ℕ) → 2 * r + 2 ≤ k → drop k P' ≡ drop k P₁
  with_drop k h = drop-set-lt k (set P₁ (2 * r) used) (2 * r + 1) (length l) (omega arith) ∙ drop-set-lt k P₁ (2 * r) used (omega arith)

  -- The list stands there.
  with_words : take N (drop used P') ≡ list_words l
  with_words =
      ap (take N) (with_drop used head ∙ drop_at (take used P) (list_words l ++ drop (used + N) P) used front)
      ∙ take_at (list_words l) (drop (used + N) P) N (words_length l)

  -- Lists before it stay.
  part_front : (X : List ℕ) (k n : ℕ) → k + n ≤ used → take n (drop k (take used P ++ X)) ≡ take n (drop k (take used P))
  part_front X k n h =
      ap (take n) (drop-append-le k (take used P) X (omega (arith, front)))
      ∙ take-append-le n (drop k (take used P)) X (omega (arith, front, length-drop k (take used P)))

  with_part : (k n : ℕ) → 2 * r + 2 ≤ k → k + n ≤ used → take n (drop k P') ≡ take n (drop k P)
  with_part k n h m =
      ap (take n) (with_drop k h)
      ∙ part_front (list_words l ++ drop (used + N) P) k n m
      ∙ sym (part_front (drop used P) k n m)
      ∙ ap (λ (xs : List ℕ). take n (drop k xs)) (take-append-drop used P)

-- ---- the walk with one record more

-- No reason has the number 0.
number_not_0 : (f : Reason) → number_of f ≡ 0 → ⊥
number_not_0 f e = grind arith

module _ (ws done : List ℕ) (pool r used : ℕ) (e : expand_all prime (records_of ws) pool done ≡ good used) where
  expand_more : record_fault prime (records_of ws) r ≡ 0 → used + list_size (list_at prime (records_of ws) r) ≤ pool
      → expand_all prime (records_of ws) pool (r ∷ done) ≡ good (used + list_size (list_at prime (records_of ws) r))
  unfolding expand_all and_then expand_record
  expand_more f l = rw (e, eq-eqb (record_fault prime (records_of ws) r) 0 f, le-leb (used + list_size (list_at prime (records_of ws) r)) pool l)

  pub expand_fault : (f : Reason) → record_fault prime (records_of ws) r ≡ number_of f → expand_all prime (records_of ws) pool (r ∷ done) ≡ refused (number_of f) r
  unfolding expand_all and_then expand_record
  expand_fault f q = rw (e, ne_eqb (record_fault prime (records_of ws) r) 0 (λ z. number_not_0 f (sym q ∙ z))) (ap (λ (k : ℕ). refused k r) q)

  expand_full : record_fault prime (records_of ws) r ≡ 0 → pool < used + list_size (list_at prime (records_of ws) r) → expand_all prime (records_of ws) pool (r ∷ done) ≡ refused 16 r
  unfolding expand_all and_then expand_record
  expand_full f l = rw (e, eq-eqb (record_fault prime (records_of ws) r) 0 f, lt-leb (used + list_size (list_at prime (records_of ws) r)) pool l)

not_here : (i r : ℕ) (done : List ℕ) → member i (r ∷ done) ≡ false → (i ≡ r → ⊥) × (member i done ≡ false)
unfolding member
not_here i r done = by_test (λ (t : Bool). t ≡ false → (i ≡ r → ⊥) × (member i done ≡ false)) (eqb i r) (λ e h. not_both refl h) (λ e h. (eqb-false i r e, h))

module _ (ws done pool : List ℕ) (used : ℕ) (h : PoolHolds ws done pool used) (o : Order ws done) (r : ℕ) (lr : r < length (records_of ws)) (new : member r done ≡ false) where
  abbrev L : List Monomial
  L = list_at prime (records_of ws) r

  pub head_room : 2 * r + 2 ≤ used
  head_room = omega (arith, h.low)

  module _ (fine : record_fault prime (records_of ws) r ≡ 0) (few : length L ≤ 256) (fit : All Fits L) (room : used + list_size L ≤ length pool)
      (low : used + list_size L ≤ 4294967295) where
    abbrev Q : List ℕ
    Q = with_list pool r used L

    long : length Q ≡ length pool
    long = with_length pool r used L head_room room

    start_new : get_or Q (2 * r) 0 ≡ used
    start_new = with_start pool r used L head_room room

    stored_new : Stored Q r L
    stored_new =
        let start = start_new in
        record {
          head = omega (arith, long, h.low, h.high);
          count_is = with_count pool r used L head_room room;
          inside = omega (arith, long);
          low = omega arith;
          few = few;
          words_are = subst (λ (s : ℕ). take (list_size L) (drop s Q) ≡ list_words L) (sym start) (with_words pool r used L head_room room);
          fit = fit;
        }

    -- A record that was expanded before.
    module _ (i : ℕ) (m : member i done ≡ true) where
      below : i < length (records_of ws)
      below = o.below i m

      other : i ≡ r → ⊥
      other e = not_both (subst (λ (j : ℕ). member j done ≡ true) e m) new

      start_old : get_or Q (2 * i) 0 ≡ get_or pool (2 * i) 0
      start_old =
          let b = below in
          with_word_lem pool r used L head_room room (2 * i) (omega (arith, h.low)) (λ e. other (omega arith)) (λ e. omega arith)

      stored_old : Stored Q i (list_at prime (records_of ws) i)
      stored_old =
          let k = h.old i m in
          let b = below in
          let start = start_old in
          let count = with_word_lem pool r used L head_room room (2 * i + 1) (omega (arith, h.low)) (λ e. omega arith) (λ e. other (omega arith)) in
          let size : ℕ = list_size (list_at prime (records_of ws) i) in
          record {
            head = omega (arith, long, h.low, h.high);
            count_is = count ∙ k.count_is;
            inside = omega (arith, long, k.inside);
            low = omega (arith, k.low);
            few = k.few;
            words_are =
                subst (λ (s : ℕ). take size (drop s Q) ≡ list_words (list_at prime (records_of ws) i)) (sym start)
                (with_part pool r used L head_room room (get_or pool (2 * i) 0) size (omega (arith, h.behind i m)) (h.before i m) ∙ k.words_are);
            fit = k.fit;
          }

    -- What holds for the record that is expanded now and for those before.
    either : (P : ℕ → Type 0) → P r → ((i : ℕ) → member i done ≡ true → P i) → (i : ℕ) → member i (r ∷ done) ≡ true → P i
    either P now old i m = go (mem_cases i r done m)
      where
        go : (i ≡ r) ⊎ (member i done ≡ true) → P i
        go (inl e) = subst P (sym e) now
        go (inr k) = old i k

    holds_more : PoolHolds ws (r ∷ done) Q (used + list_size L)
    holds_more = record {
      used_is = subst (λ (n : ℕ). expand_all prime (records_of ws) n (r ∷ done) ≡ good (used + list_size L)) (sym long) (expand_more ws done (length pool) r used h.used_is fine room);
      low = omega (arith, h.low);
      high = omega (arith, long);
      small = omega (arith, h.small, size_small L fit);
      new = λ i l m.
          let n = not_here i r done m in
          with_word_lem pool r used L head_room room (2 * i) (omega (arith, h.low)) (λ e. n.0 (omega arith)) (λ e. omega arith) ∙ h.new i l n.1;
      old = either (λ (i : ℕ). Stored Q i (list_at prime (records_of ws) i)) stored_new stored_old;
      behind =
          either (λ (i : ℕ). 2 * length (records_of ws) ≤ get_or Q (2 * i) 0) (omega (arith, start_new, h.low))
          (λ i m. omega (arith, start_old i m, h.behind i m));
      before =
          either (λ (i : ℕ). get_or Q (2 * i) 0 + list_size (list_at prime (records_of ws) i) ≤ used + list_size L) (omega (arith, start_new))
          (λ i m. omega (arith, start_old i m, h.before i m));
    }

  -- What storing asks, and what it comes to.
  module _ (checked : check prime ws ≡ good (read_sheet ws)) where
    used_small : used ≤ 16785408
    used_small = omega (arith, h.small, few_records ws checked, distinct_length (length (records_of ws)) done o.distinct o.below)

    pub storing : Storing pool r used
    storing = record { head = head_room; high = h.high; small = omega (arith, used_small) }

    module _ (l : List Monomial) (is : l ≡ L) (fine : record_fault prime (records_of ws) r ≡ 0) (pool' : List ℕ) where
      pub stored : {u : ℕ} → Stores pool pool' r used l (Ok u) → PoolHolds ws (r ∷ done) pool' u
      stored {u} s =
          let t : Stores pool pool' r used L (Ok u) = subst (λ (l : List Monomial). Stores pool pool' r used l (Ok u)) is s in
          let f = t.3 in
          subst (λ (q : List ℕ). PoolHolds ws (r ∷ done) q u) (sym t.2)
          (subst (PoolHolds ws (r ∷ done) (with_list pool r used L)) (sym t.0)
          (holds_more fine f.few f.fit (omega arith) (omega (arith, used_small, size_small L f.fit, f.few))))

  pub full : (l : List Monomial) → l ≡ L → record_fault prime (records_of ws) r ≡ 0 → (pool' : List ℕ) → length pool' ≡ length pool
      → {q : Refusal} → Stores pool pool' r used l (Err q)
      → expand_all prime (records_of ws) (length pool') (r ∷ done) ≡ refused (number_of q.reason) q.place
  full l is fine pool' lp {q} s =
      let t : Stores pool pool' r used L (Err q) = subst (λ (l : List Monomial). Stores pool pool' r used l (Err q)) is s in
      subst (λ (k : ℕ). expand_all prime (records_of ws) k (r ∷ done) ≡ refused (number_of q.reason) q.place) (sym lp)
      (expand_full ws done (length pool) r used h.used_is fine t.2 ∙ λ i. refused (number_of (sym t.0 i)) (sym t.1 i))
