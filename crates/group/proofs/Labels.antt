-- Roots whose labels ascend, and whose lists ascend, give items in a steady order.
use mathlib.Core.Path.{◌≡◌, refl, sym, ◌∙◌, ap, subst}
use mathlib.Core.Logic.{◌⊎◌, inl, inr}
use mathlib.Core.Bool.{true, false}
use mathlib.Core.List.{List, [], ◌∷◌, ◌++◌, flat_map}
use Prim.Native.Nat.{ℕ, suc, ◌<◌}
use native.Mathlib.Omega.{arith}
use lib.Dec.{eqb}
use lib.ListN.{length}
use Rattle.semantics.specs.Sheet.{Interaction, Sheet}
use Rattle.semantics.specs.Monomial.{Asc, Monomial, before, before_vars}
use Rattle.semantics.specs.Group.{Root, labelled, constraint_roots, count_roots, field_roots, Item, items_of, items, key, later, groups}
use Rattle.semantics.specs.Lists.{All}
use Rattle.semantics.proofs.Combining.{Above}
use Rattle.semantics.proofs.Basics.{by_test, not_both}
use Rattle.semantics.proofs.Order.{lex_head, lex_tail, before_vars_irrefl}
use Rattle.semantics.proofs.Sorting.{all_append}
use Rattle.semantics.proofs.Grouping.{later_asym}
use Rattle.group.proofs.Gathering.{Front, Steady, gathered, split_sort}

-- A label comes before another: by the index, then by the field.
abbrev pub Prior : (i f j g : ℕ) → Type 0
Prior i f j g = (i < j) ⊎ ((i ≡ j) × (f < g))

abbrev pub PriorRoot : Root → Root → Type 0
PriorRoot r s = Prior r.index r.field s.index s.field

abbrev pub Labels : List Root → Type 0
Labels [] = Unit {0}
Labels (r ∷ rs) = All (PriorRoot r) rs × Labels rs

lex_prefix : (xs a b : List ℕ) → before a b ≡ true → before (xs ++ a) (xs ++ b) ≡ true
lex_prefix [] a b h = h
lex_prefix (x ∷ xs) a b h = lex_tail x x (xs ++ a) (xs ++ b) refl (lex_prefix xs a b h)

label_later : (t u : Item) → Prior t.index t.field u.index u.field → t.vars ≡ u.vars → later t u ≡ false
unfolding later key
label_later t u h e = later_asym u t (lex_tail (length t.vars) (length u.vars) _ _ (ap length e) (rw e (lex_prefix u.vars _ _ (go h))))
  where
    go : Prior t.index t.field u.index u.field
        → before (t.index ∷ t.field ∷ t.coef ∷ []) (u.index ∷ u.field ∷ u.coef ∷ []) ≡ true
    go (inl a) = lex_head t.index u.index _ _ a
    go (inr a) = lex_tail t.index u.index _ _ a.0 (lex_head t.field u.field _ _ a.1)

-- The items of one root.
of_all : (P : Item → Type 0) (Q : Monomial → Type 0) (r : Root) → ((m : Monomial) → Q m → P (record { vars = m.vars; index = r.index; field = r.field; coef = m.coef }))
    → (ms : List Monomial) → All Q ms → All P (items_of r ms)
unfolding items_of
of_all P Q r f [] k = tt
of_all P Q r f (m ∷ ms) k = let ih = of_all P Q r f ms in by_test (All P) (eqb m.coef 0) (λ e. ih k.1) (λ e. (f m k.0, ih k.1))

above_all_lem : (v : List ℕ) (ms : List Monomial) → Above v ms → All (λ (m : Monomial). before_vars v m.vars ≡ true) ms
above_all_lem v [] k = tt
above_all_lem v (m ∷ ms) k = (k.0, above_all_lem v ms k.1)

any_all : (ms : List Monomial) → All (λ (m : Monomial). Unit {0}) ms
any_all [] = tt
any_all (m ∷ ms) = (tt, any_all ms)

of_steady : (r : Root) (ms : List Monomial) → Asc ms → Steady (items_of r ms)
unfolding items_of
of_steady r [] k = tt
of_steady r (m ∷ ms) k =
    let ih = of_steady r ms in
    by_test Steady (eqb m.coef 0) (λ e. ih k.1)
    (λ e. (
      of_all (λ (u : Item). m.vars ≡ u.vars → later (record { vars = m.vars; index = r.index; field = r.field; coef = m.coef }) u ≡ false)
          (λ (n : Monomial). before_vars m.vars n.vars ≡ true) r
          (λ n h q. not_both (subst (λ (v : List ℕ). before_vars m.vars v ≡ true) (sym q) h) (before_vars_irrefl m.vars))
          ms (above_all_lem m.vars ms k.0),
      ih k.1,
    ))

steady_append : (ts us : List Item) → Steady ts → Steady us → All (λ (t : Item). Front t us) ts → Steady (ts ++ us)
steady_append [] us a b k = b
steady_append (t ∷ ts) us a b k =
    (all_append (λ (u : Item). t.vars ≡ u.vars → later t u ≡ false) ts us a.0 k.0, steady_append ts us a.1 b k.1)

module _ (list : ℕ → List Monomial) where
  -- What stands before some roots stands before their items.
  front_items : (t : Item) (rs : List Root) → All (λ (s : Root). Prior t.index t.field s.index s.field) rs → Front t (items list rs)
  unfolding items flat_map
  front_items t [] k = tt
  front_items t (s ∷ rs) k =
      all_append (λ (u : Item). t.vars ≡ u.vars → later t u ≡ false) (items_of s (list s.node)) (items list rs)
      (of_all (λ (u : Item). t.vars ≡ u.vars → later t u ≡ false) (λ (m : Monomial). Unit {0}) s
      (λ m z e. label_later t (record { vars = m.vars; index = s.index; field = s.field; coef = m.coef }) k.0 e)
      (list s.node) (any_all (list s.node)))
      (front_items t rs k.1)

  pub items_steady : ((i : ℕ) → Asc (list i)) → (rs : List Root) → Labels rs → Steady (items list rs)
  unfolding items flat_map
  items_steady asc [] k = tt
  items_steady asc (r ∷ rs) k =
      steady_append (items_of r (list r.node)) (items list rs) (of_steady r (list r.node) (asc r.node)) (items_steady asc rs k.1)
      (of_all (λ (t : Item). Front t (items list rs)) (λ (m : Monomial). Unit {0}) r
      (λ m z. front_items (record { vars = m.vars; index = r.index; field = r.field; coef = m.coef }) rs k.0)
      (list r.node) (any_all (list r.node)))

  pub groups_gathered : ((i : ℕ) → Asc (list i)) → (rs : List Root) → Labels rs → groups list rs ≡ gathered (items list rs)
  unfolding groups
  groups_gathered asc rs k = split_sort (items list rs) (items_steady asc rs k)

-- Numbered roots: those of one element have its number, and later numbers come later.
module _ {X : Type 0} (f : ℕ → X → List Root) (P : ℕ → Root → Type 0)
    (rises : (n m : ℕ) (r s : Root) → n < m → P n r → P m s → PriorRoot r s)
    (own : (n : ℕ) (x : X) → All (P n) (f n x)) (each : (n : ℕ) (x : X) → Labels (f n x)) where
  behind : (k n : ℕ) (r : Root) (xs : List X) → k < n → P k r → All (PriorRoot r) (labelled f n xs)
  unfolding labelled
  behind k n r [] h p = tt
  behind k n r (x ∷ xs) h p =
      all_append (PriorRoot r) (f n x) (labelled f (suc n) xs) (go (f n x) (own n x)) (behind k (suc n) r xs (omega arith) p)
    where
      go : (ss : List Root) → All (P n) ss → All (PriorRoot r) ss
      go [] a = tt
      go (s ∷ ss) a = (rises k n r s h p a.0, go ss a.1)

  labels_append : (n : ℕ) (rs ss : List Root) → All (P n) rs → Labels rs → Labels ss
      → ((r : Root) → P n r → All (PriorRoot r) ss) → Labels (rs ++ ss)
  labels_append n [] ss p a b k = b
  labels_append n (r ∷ rs) ss p a b k =
      (all_append (PriorRoot r) rs ss a.0 (k r p.0), labels_append n rs ss p.1 a.1 b k)

  pub labelled_labels : (n : ℕ) (xs : List X) → Labels (labelled f n xs)
  unfolding labelled
  labelled_labels n [] = tt
  labelled_labels n (x ∷ xs) =
      labels_append n (f n x) (labelled f (suc n) xs) (own n x) (each n x) (labelled_labels (suc n) xs)
      (λ r p. behind n (suc n) r xs (omega arith) p)

pub constraint_labels : (s : Sheet) → Labels (constraint_roots s)
unfolding constraint_roots
constraint_labels s =
    labelled_labels (λ j (c : ℕ). record { node = c; index = j; field = 0 } ∷ []) (λ n (r : Root). r.index ≡ n)
    (λ n m r s h p q. inl (omega arith)) (λ n x. (refl, tt)) (λ n x. (tt, tt)) 0 s.constraints

pub count_labels : (s : Sheet) → Labels (count_roots s)
unfolding count_roots
count_labels s =
    labelled_labels (λ i (x : Interaction). record { node = x.count; index = i; field = 0 } ∷ []) (λ n (r : Root). r.index ≡ n)
    (λ n m r s h p q. inl (omega arith)) (λ n x. (refl, tt)) (λ n x. (tt, tt)) 0 s.interactions

-- What the roots of every element have, all numbered roots have.
labelled_all : {X : Type 0} (P : Root → Type 0) (f : ℕ → X → List Root) → ((n : ℕ) (x : X) → All P (f n x)) → (n : ℕ) (xs : List X) → All P (labelled f n xs)
unfolding labelled
labelled_all P f h n [] = tt
labelled_all P f h n (x ∷ xs) = all_append P (f n x) (labelled f (suc n) xs) (h n x) (labelled_all P f h (suc n) xs)

pub field_labels : (s : Sheet) → Labels (field_roots s)
unfolding field_roots
field_labels s =
    labelled_labels fields (λ n (r : Root). r.index ≡ n) (λ n m r s h p q. inl (omega arith))
    (λ n x. labelled_all (λ (r : Root). r.index ≡ n) (one n) (λ m c. (refl, tt)) 0 x.message)
    (λ n x. labelled_labels (one n) (λ m (r : Root). (r.index ≡ n) × (r.field ≡ m))
    (λ k m r s h p q. inr (p.0 ∙ sym q.0, omega (arith, p.1, q.1))) (λ m c. ((refl, refl), tt)) (λ m c. (tt, tt)) 0 x.message)
    0 s.interactions
  where
    one : ℕ → ℕ → ℕ → List Root
    one i j c = record { node = c; index = i; field = j } ∷ []

    fields : ℕ → Interaction → List Root
    fields i x = labelled (one i) 0 x.message
