-- The list of a record from its children's lists in the pool, by the record's node.
use mathlib.Core.Path.{◌≡◌, refl, sym, ap, subst, ◌∙◌}
use mathlib.Core.Bool.{Bool, true, false}
use mathlib.Core.List.{List, [], ◌∷◌, ◌++◌, map}
use Prim.Native.Nat.{ℕ, ◌≤◌, ◌<◌}
use native.Mathlib.Omega.{arith}
use lib.Dec.{eqb}
use lib.ListN.{length}
use borrow.Author.Tests.{eqb-true, eq-eqb}
use Rattle.semantics.specs.Arithmetic.{prime}
use Rattle.semantics.specs.Answer.{good}
use Rattle.semantics.specs.Sheet.{Record, GoodRecord}
use Rattle.semantics.specs.Check.{read_sheet, check}
use Rattle.semantics.specs.Packing.{packed, pack_fault}
use Rattle.semantics.specs.Value.{Leaf, Node, leaf, const, add, sub, neg, mul, node_of, record_at}
use Rattle.semantics.specs.Walk.{Mem, children, children_at, member}
use Rattle.semantics.specs.Monomial.{Monomial, neg_monomial, products, combine, working, finished, record_list, list_at}
use Rattle.semantics.specs.Expand.{longer, work_fault, record_fault}
use Rattle.semantics.proofs.Basics.{by_test, cond_true}
use Rattle.semantics.proofs.Expansions.{list_at_lem}
use Rattle.std.specs.Prelude.{Result, Ok, Err}
use Rattle.answers.specs.declared.Reason.{Reason}
use Rattle.answers.specs.declared.Refusal.{Refusal}
use Rattle.records.specs.declared.Record as declared
use Rattle.records.specs.declared.Node as nodes
use Rattle.records.specs.Access.{five_words, node_in, records_of}
use Rattle.records.specs.Nodes.{shown_node}
use Rattle.records.specs.Orders.{Order}
use Rattle.records.proofs.Steps.{lows}
use Rattle.records.proofs.Visits.{record_good, kind_limits, is}
use Rattle.monomial.specs.declared.Sign.TheVariants.{Plus, Minus}
use Rattle.monomial.specs.Signs.{signed}
use Rattle.monomial.specs.Words.{constant, single, Stored}
use Rattle.expand.specs.Making.{Makes, MakesCombined}
use Rattle.expand.specs.declared.Walk.{Walk}
use Rattle.expand.specs.Walking.{PoolHolds, Expands, ChildrenStored, Storing, Stores}
use Rattle.expand.specs.Walks.{Holds, Finishing}
use Rattle.expand.proofs.Nodes.{number, packs_none, leaf_kind, constant_kind}
use Rattle.expand.proofs.Leaves.{constant_small}
use Rattle.expand.proofs.Working.{neg_fine}
use Rattle.expand.proofs.Storing.{expand_fault, storing, stored, full}

-- Members of the children.
first_in : (x : ℕ) (xs : List ℕ) → Mem x (x ∷ xs)
unfolding member
first_in x xs = cond_true (eqb x x) true _ (eq-eqb x x refl)

second_in : (x y : ℕ) → Mem y (x ∷ y ∷ [])
unfolding member
second_in x y = by_test (λ (t : Bool). t ≡ true) (eqb y x) (λ e. refl) (λ e. first_in y [])

makes_same : (u : Result (List Monomial) Reason) (f g : ℕ) (l m : List Monomial) → f ≡ g → l ≡ m → Makes u f l → Makes u g m
makes_same u f g l m e d h = subst (λ (n : ℕ). Makes u n m) e (subst (Makes u f) d h)

module _ {ws : List ℕ} {r : ℕ} {pool : List ℕ} (checked : check prime ws ≡ good (read_sheet ws)) (p : ChildrenStored ws r pool) where
  abbrev inside : r < length (records_of ws)
  inside = p.inside

  abbrev R : Record
  R = record_at (records_of ws) r

  abbrev lists : ℕ → List Monomial
  lists = list_at prime (records_of ws)

  limit : R.kind ≤ 9
  limit = (kind_limits ws checked r inside).1

  -- The words that are read are the record's, and so is their node.
  module _ (q : declared.Record) (e : five_words q ≡ node_in ws r) where
    words : five_words q ≡ R
    words = is ws checked r inside q e

    module _ {n : nodes.Node} (f : shown_node n ≡ node_of (five_words q)) where
      pub shown : {m : nodes.Node} → n ≡ m → shown_node m ≡ node_of R
      shown i = sym (ap shown_node i) ∙ f ∙ ap node_of words

  -- By its node: why the record is refused, and its list.
  module _ (k : Node) (n : k ≡ node_of R) where
    -- The list of a child.
    child : (c : ℕ) → Mem c (children k) → Stored pool c (lists c)
    child c m = p.stored c (unfold children_at in (subst (λ (x : Node). Mem c (children x)) n m))

    made_as : (f : ℕ) → f ≡ record_fault prime (records_of ws) r → (l : List Monomial) → l ≡ finished prime k (working prime R k lists)
        → (u : Result (List Monomial) Reason) → Makes u f l → Makes u (record_fault prime (records_of ws) r) (lists r)
    made_as f g l h u m =
        makes_same u f _ l (lists r) g
        (h ∙ ap (λ (x : Node). finished prime x (working prime R x lists)) n ∙ sym (list_at_lem prime (records_of ws) (lows ws checked) r inside ∙ unfold record_list in refl)) m

    -- Any but a leaf is refused for its working list only.
    parent_fault : (number k ≡ 0 → ⊥) → work_fault (working prime R k lists) ≡ record_fault prime (records_of ws) r
    unfolding record_fault
    parent_fault z =
        ap (λ (x : Node). work_fault (working prime R x lists)) n
        ∙ sym (cond_true (eqb (pack_fault R) 0) _ (pack_fault R) (eq-eqb (pack_fault R) 0 (packs_none R (λ y. z (ap number n ∙ y)))))

  -- A leaf is refused for its packing only.
  module _ (x : Leaf) (n : leaf x ≡ node_of R) where
    leaf_fault : pack_fault R ≡ record_fault prime (records_of ws) r
    unfolding record_fault work_fault working longer
    leaf_fault =
        by_test (λ (t : ℕ). pack_fault R ≡ t) (eqb (pack_fault R) 0)
        (λ t. eqb-true (pack_fault R) 0 t ∙ ap (λ (y : Node). work_fault (working prime R y lists)) n) (λ t. refl)

    module _ (q : declared.Record) (e : five_words q ≡ node_in ws r) where
      pub leaf_ready : (q.kind ≤ 4) × GoodRecord prime r (five_words q)
      leaf_ready = (
        subst (λ (w : Record). w.kind ≤ 4) (sym (words q e)) (leaf_kind R limit n),
        subst (GoodRecord prime r) (sym (words q e)) (record_good ws checked r inside),
      )

      pub finishes_leaf : (u : Result (List Monomial) Reason) → Makes u (pack_fault (five_words q)) (single (packed (five_words q)) ∷ [])
          → Makes u (record_fault prime (records_of ws) r) (lists r)
      unfolding working finished
      finishes_leaf u m =
          made_as (leaf x) n (pack_fault R) leaf_fault (single (packed R) ∷ []) refl u
          (subst (λ (w : Record). Makes u (pack_fault w) (single (packed w) ∷ [])) (words q e) m)

  -- A constant.
  module _ (k : ℕ) (n : const k ≡ node_of R) where
    pub constant_ready : k < prime
    constant_ready =
        let (five, same) = constant_kind R limit n in
        subst (λ (a : ℕ). a < prime) same (constant_small r R (record_good ws checked r inside) five)

    pub finishes_constant : (l : List Monomial) → l ≡ constant k ∷ [] → Makes (Ok l) (record_fault prime (records_of ws) r) (lists r)
    unfolding working finished work_fault longer
    finishes_constant l e = made_as (const k) n 0 (parent_fault (const k) n (λ z. omega (arith, z))) (constant k ∷ []) refl (Ok l) (refl, e)

  -- A Neg.
  module _ (x : ℕ) (n : neg x ≡ node_of R) where
    pub neg_child : Stored pool x (lists x)
    unfolding children
    neg_child = child (neg x) n x (first_in x [])

    pub finishes_neg : (l : List Monomial) (z : List Monomial) → z ≡ lists x → l ≡ map (neg_monomial prime) z → Makes (Ok l) (record_fault prime (records_of ws) r) (lists r)
    unfolding working finished
    finishes_neg l z e h =
        let fine : work_fault (map (neg_monomial prime) (lists x)) ≡ 0 = neg_fine (lists x) (record { few = neg_child.few; fit = neg_child.fit }) in
        made_as (neg x) n 0 (sym fine ∙ parent_fault (neg x) n (λ z. omega (arith, z))) (map (neg_monomial prime) (lists x)) refl (Ok l)
        (refl, h ∙ ap (map (neg_monomial prime)) e)

  -- The children of a node that has two.
  module _ (k : Node) (n : k ≡ node_of R) {x y : ℕ} (e : children k ≡ x ∷ y ∷ []) where
    pub first_of : Stored pool x (lists x)
    first_of = child k n x (subst (Mem x) (sym e) (first_in x (y ∷ [])))

    pub second_of : Stored pool y (lists y)
    second_of = child k n y (subst (Mem y) (sym e) (second_in x y))

  -- A node with two children, whose list is combined.
  module _ (k : Node) (n : k ≡ node_of R) (z : number k ≡ 0 → ⊥) where
    finishes_two : (W : List Monomial) → W ≡ working prime R k lists → combine prime (working prime R k lists) ≡ finished prime k (working prime R k lists)
        → (u : Result (List Monomial) Reason) → MakesCombined u W → Makes u (record_fault prime (records_of ws) r) (lists r)
    finishes_two W w f u m =
        made_as k n (work_fault (working prime R k lists)) (parent_fault k n z) (combine prime (working prime R k lists)) f u (subst (MakesCombined u) w m)

  module _ (x y : ℕ) (l₁ l₂ : List Monomial) (e₁ : l₁ ≡ lists x) (e₂ : l₂ ≡ lists y) (u : Result (List Monomial) Reason) where
    pub finishes_add : add x y ≡ node_of R → MakesCombined u (l₁ ++ signed Plus l₂) → Makes u (record_fault prime (records_of ws) r) (lists r)
    unfolding working finished
    finishes_add n m = finishes_two (add x y) n (λ z. omega (arith, z)) (l₁ ++ l₂) (λ i. e₁ i ++ e₂ i) refl u m

    pub finishes_sub : sub x y ≡ node_of R → MakesCombined u (l₁ ++ signed Minus l₂) → Makes u (record_fault prime (records_of ws) r) (lists r)
    unfolding working finished
    finishes_sub n m = finishes_two (sub x y) n (λ z. omega (arith, z)) (l₁ ++ map (neg_monomial prime) l₂) (λ i. e₁ i ++ map (neg_monomial prime) (e₂ i)) refl u m

    pub finishes_mul : mul x y ≡ node_of R → MakesCombined u (products prime l₁ l₂) → Makes u (record_fault prime (records_of ws) r) (lists r)
    unfolding working finished
    finishes_mul n m = finishes_two (mul x y) n (λ z. omega (arith, z)) (products prime l₁ l₂) (λ i. products prime (e₁ i) (e₂ i)) refl u m

-- What storing asks; and what it comes to, of a record whose children are expanded.
module _ {v : Walk} {r : ℕ} (p : Finishing v r) where
  abbrev ws : List ℕ
  ws = v.sheet.words.now

  abbrev L : List Monomial
  L = list_at prime (records_of ws) r

  pub finish_storing : Storing v.pool.now r v.used
  finish_storing = let w = p.ready.walking in storing ws w.done v.pool.now v.used w.holds w.order r p.ready.inside p.new v.sheet.checked

  module _ (u : Result (List Monomial) Reason) (m : Makes u (record_fault prime (records_of ws) r) L) where
    -- Its list was not made.
    pub finish_refused : {f : Reason} → u ≡ Err f → (done : List ℕ) → Holds v done
        → Expands ws v.pool.now v.used (Err (record { reason = f; place = r })) (r ∷ done)
    finish_refused {f} e done h =
        expand_fault ws done (length v.pool.now) r v.used h.used_is f
        (subst (λ (x : Result (List Monomial) Reason). Makes x (record_fault prime (records_of ws) r) L) e m)

    module _ {l : List Monomial} (e : u ≡ Ok l) (pool' : List ℕ) (lp : length pool' ≡ length v.pool.now) (a : Result ℕ Refusal)
        (s : Stores v.pool.now pool' r v.used l a) (done : List ℕ) (o : Order ws done) (new : member r done ≡ false) (h : Holds v done) where
      made : Makes (Ok l) (record_fault prime (records_of ws) r) L
      made = subst (λ (x : Result (List Monomial) Reason). Makes x (record_fault prime (records_of ws) r) L) e m

      -- It is stored.
      pub finish_stored : {used : ℕ} → a ≡ Ok used → PoolHolds ws (r ∷ done) pool' used
      finish_stored g =
          stored ws done v.pool.now v.used h o r p.ready.inside new v.sheet.checked l made.1 made.0 pool' (subst (Stores v.pool.now pool' r v.used l) g s)

      -- There is no room for it.
      pub finish_full : {q : Refusal} → a ≡ Err q → (used : ℕ) → Expands ws pool' used (Err q) (r ∷ done)
      finish_full g used =
          full ws done v.pool.now v.used h o r p.ready.inside new l made.1 made.0 pool' lp (subst (Stores v.pool.now pool' r v.used l) g s)
