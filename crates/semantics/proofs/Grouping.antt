-- Groups of terms: laid out and read back; ascending, with no zero; and the value that the terms of a root sum to.
use mathlib.Core.Path.{◌≡◌, refl, sym, ◌∙◌, ap, subst}
use mathlib.Core.Logic.{◌⊎◌, inl, inr}
use mathlib.Core.Bool.{Bool, true, false, cond, ◌&&◌}
use mathlib.Core.List.{List, [], ◌∷◌, ◌++◌, map, flat_map, append_assoc}
use Prim.Native.Nat.{ℕ, zero, suc, ◌+◌, ◌*◌, ◌/◌, ◌≤◌, ◌<◌}
use native.Mathlib.Omega.{arith}
use lib.Dec.{eqb}
use lib.ListN.{length, get_or, length-append}
use lib.Seq.{take_at, drop_at, take-append_seam}
use borrow.Author.Tests.{eqb-true, eqb-false, eq-eqb, ne_eqb}
use Rattle.semantics.specs.Lists.{All, Ahead, Sorted}
use Rattle.slices.specs.Rows.{rows}
use Rattle.slices.proofs.Lists.{flat_length}
use Rattle.semantics.specs.Arithmetic.{add_m, mul_m}
use Rattle.semantics.specs.Sheet.{Interaction, Sheet}
use Rattle.semantics.specs.Value.{Leaf}
use Rattle.semantics.specs.Monomial.{BeforeVars, Monomial, before, before_vars, sort}
use Rattle.semantics.specs.Group.{Root, labelled, constraint_roots, count_roots, field_roots, Item, items_of, items, key, later}
use Rattle.semantics.specs.Group.{Group, push, split, groups, constraint_term, interaction_term, headers, variables, terms, Listed, listed_at, listed}
use Rattle.semantics.specs.Demand.{product_of, sum_terms, sum_of, of_constraint, of_count, of_field, first, second, Ascending, NonZero, no_interaction, constraint_at, interaction_at, field_at}
use Rattle.semantics.proofs.Basics.{by_test, not_both}
use Rattle.semantics.proofs.Arithmetic.{add_m_lt, mul_m_lt, add_m_zero, zero_add_m, zero_mul_m, add_m_assoc, sums}
use Rattle.semantics.proofs.Order.{lex_inv, lex_head, lex_tail, lex_irrefl, lex_trans, lex_total, before_vars_trans, before_vars_total}
use Rattle.semantics.proofs.Monomials.{val, val_cons, val_one, val_lt}
use Rattle.semantics.proofs.Combining.{Small}
use Rattle.semantics.proofs.Sorting.{all_imply, all_append, sort_all, sort_same, sorted_sort}

-- A group as it reads.
unfoldable pub shown : (Item → List ℕ) → Group → Listed
shown term g = record { vars = g.vars; terms = map term g.terms }

-- What is laid out reads back.
pub headers_length : (vo to : ℕ) (gs : List Group) → length (headers vo to gs) ≡ 4 * length gs
unfolding headers
headers_length vo to [] = refl
headers_length vo to (g ∷ gs) = ap (λ (n : ℕ). suc (suc (suc (suc n)))) (headers_length (vo + length g.vars) (to + length g.terms) gs) ∙ omega arith

module _ (term : Item → List ℕ) (width : ℕ) (wide : (t : Item) → length (term t) ≡ width) where
  rows_terms : (ts : List Item) (rest : List ℕ) → rows width (length ts) (flat_map term ts ++ rest) ≡ map term ts
  unfolding rows flat_map
  rows_terms [] rest = refl
  rows_terms (t ∷ ts) rest =
      let ih = rows_terms ts rest in
      let rest' : List ℕ = flat_map term ts ++ rest in
      simp (append_assoc, take_at (term t) rest' width (wide t), drop_at (term t) rest' width (wide t), ih)

  -- A group behind the variables and the terms of those before it.
  read_one : (g : Group) (vs ts vmore tmore : List ℕ) (vo to : ℕ) → length vs ≡ vo → length ts ≡ width * to
      → listed_at width (vs ++ (g.vars ++ vmore)) (ts ++ (flat_map term g.terms ++ tmore)) (vo ∷ to ∷ length g.vars ∷ length g.terms ∷ [])
      ≡ shown term g
  unfolding listed_at shown
  read_one g vs ts vmore tmore vo to h k =
      simp (drop_at vs (g.vars ++ vmore) vo h, drop_at ts (flat_map term g.terms ++ tmore) (width * to) k, take-append_seam, rows_terms)

  read_back : (gs : List Group) (vs ts : List ℕ) (vo to : ℕ) → length vs ≡ vo → length ts ≡ width * to
      → map (listed_at width (vs ++ variables gs) (ts ++ terms term gs)) (rows 4 (length gs) (headers vo to gs)) ≡ map (shown term) gs
  unfolding variables terms flat_map rows headers
  read_back [] vs ts vo to h k = refl
  read_back (g ∷ gs) vs ts vo to h k =
      let ih = read_back gs (vs ++ g.vars) (ts ++ flat_map term g.terms) (vo + length g.vars) (to + length g.terms)
      (length-append vs g.vars ∙ omega arith)
      (length-append ts (flat_map term g.terms) ∙ omega (arith, flat_length term width wide g.terms)) in
      simp (read_one g vs ts (variables gs) (terms term gs) vo to h k)
      (ap (λ (l : List Listed). shown term g ∷ l)
      (rw (append_assoc vs g.vars (variables gs), append_assoc ts (flat_map term g.terms) (terms term gs)) at ih))

  pub listed_layout : (gs : List Group) → listed width (headers 0 0 gs) (variables gs) (terms term gs) ≡ map (shown term) gs
  unfolding listed
  listed_layout gs =
      let e = headers_length 0 0 gs in
      let q : length (headers 0 0 gs) / 4 ≡ length gs = omega arith in
      rw q (read_back gs [] [] 0 0 refl (omega arith))

-- The order of items is strict and total: it is that of their keys, and an item is told by its key.
append_parts : (s t u v : List ℕ) → length s ≡ length t → s ++ u ≡ t ++ v → (s ≡ t) × (u ≡ v)
append_parts [] [] u v l e = (refl, e)
append_parts [] (y ∷ t) u v l e = absurd (omega arith)
append_parts (x ∷ s) [] u v l e = absurd (omega arith)
append_parts (x ∷ s) (y ∷ t) u v l e =
    let q : x ≡ y = cc in
    let r : s ++ u ≡ t ++ v = cc in
    let ih = append_parts s t u v (omega arith) r in
    let a : s ≡ t = ih.0 in
    (cc, ih.1)

key_inj : (t u : Item) → key t ≡ key u → t ≡ u
unfolding key
key_inj t u e =
    let l : length t.vars ≡ length u.vars = cc in
    let k : t.vars ++ (t.index ∷ t.field ∷ t.coef ∷ []) ≡ u.vars ++ (u.index ∷ u.field ∷ u.coef ∷ []) = cc in
    let b = append_parts t.vars u.vars (t.index ∷ t.field ∷ t.coef ∷ []) (u.index ∷ u.field ∷ u.coef ∷ []) l k in
    let v : t.vars ≡ u.vars = b.0 in
    let w : t.index ∷ t.field ∷ t.coef ∷ [] ≡ u.index ∷ u.field ∷ u.coef ∷ [] = b.1 in
    let i : t.index ≡ u.index = cc in
    let f : t.field ≡ u.field = cc in
    let c : t.coef ≡ u.coef = cc in
    λ d. record { vars = v d; index = i d; field = f d; coef = c d }

pub later_asym : (t u : Item) → later t u ≡ true → later u t ≡ false
unfolding later
later_asym t u h = go (before (key t) (key u)) refl
  where
    go : (b : Bool) → before (key t) (key u) ≡ b → before (key t) (key u) ≡ false
    go false e = e
    go true e = not_both (lex_trans (key t) (key u) (key t) e h) (lex_irrefl (key t))

later_trans : (t u v : Item) → later t u ≡ true → later u v ≡ true → later t v ≡ true
unfolding later
later_trans t u v h k = lex_trans (key v) (key u) (key t) k h

later_total : (t u : Item) → later t u ≡ false → later u t ≡ false → t ≡ u
unfolding later
later_total t u h k = key_inj t u (lex_total (key t) (key u) k h)

-- An item with later variables is later.
lex_append : (s t u v : List ℕ) → length s ≡ length t → before s t ≡ true → before (s ++ u) (t ++ v) ≡ true
lex_append [] [] u v l h = not_both h (lex_irrefl [])
lex_append [] (y ∷ t) u v l h = absurd (omega arith)
lex_append (x ∷ s) [] u v l h = absurd (omega arith)
lex_append (x ∷ s) (y ∷ t) u v l h = go (lex_inv x y s t h) (lex_append s t u v (omega arith))
  where
    go : (x < y) ⊎ ((x ≡ y) × (before s t ≡ true)) → (before s t ≡ true → before (s ++ u) (t ++ v) ≡ true)
        → before (x ∷ s ++ u) (y ∷ t ++ v) ≡ true
    go (inl a) ih = lex_head x y (s ++ u) (t ++ v) a
    go (inr a) ih = lex_tail x y (s ++ u) (t ++ v) a.0 (ih a.1)

pub later_vars : (t u : Item) → before_vars u.vars t.vars ≡ true → later t u ≡ true
unfolding before_vars later key
later_vars t u h = go (lex_inv (length u.vars) (length t.vars) u.vars t.vars h)
  where
    go : (length u.vars < length t.vars) ⊎ ((length u.vars ≡ length t.vars) × (before u.vars t.vars ≡ true))
        → before (key u) (key t) ≡ true
    go (inl a) = lex_head (length u.vars) (length t.vars) _ _ a
    go (inr a) = lex_tail (length u.vars) (length t.vars) _ _ a.0 (lex_append u.vars t.vars _ _ a.0 a.1)

-- Where an item goes: into a group of its own in front, or into the first group, whose variables are then its own.
pub push_by : (P : List Group → Type 0) (t : Item) (g : Group) (gs : List Group)
    → ((before_vars t.vars g.vars ≡ true) ⊎ (before_vars g.vars t.vars ≡ true) → P (record { vars = t.vars; terms = t ∷ [] } ∷ g ∷ gs))
    → (t.vars ≡ g.vars → P (record { vars = g.vars; terms = t ∷ g.terms } ∷ gs)) → P (push t (g ∷ gs))
unfolding push
push_by P t g gs new old =
    by_test P (before_vars t.vars g.vars) (λ e. new (inl e))
    (λ e. by_test P (before_vars g.vars t.vars) (λ f. new (inr f)) (λ f. old (before_vars_total t.vars g.vars e f)))

-- The first group has the first item's variables.
abbrev First : List Item → List Group → Type 0
First [] [] = Unit {0}
First [] (g ∷ gs) = ⊥
First (t ∷ ts) [] = ⊥
First (t ∷ ts) (g ∷ gs) = g.vars ≡ t.vars

push_first : (t : Item) (ts : List Item) (gs : List Group) → First (t ∷ ts) (push t gs)
push_first t ts [] = unfold push in refl
push_first t ts (g ∷ gs) = push_by (First (t ∷ ts)) t g gs (λ e. refl) (λ e. sym e)

split_first : (ts : List Item) → First ts (split ts)
unfolding split
split_first [] = tt
split_first (t ∷ ts) = push_first t ts (split ts)

after_trans : (u v : List ℕ) (hs : List Listed) → BeforeVars u v → All (λ (h : Listed). BeforeVars v h.vars) hs
    → All (λ (h : Listed). BeforeVars u h.vars) hs
after_trans u v hs e =
    all_imply (λ (h : Listed). BeforeVars v h.vars) (λ (h : Listed). BeforeVars u h.vars) (λ h. before_vars_trans u v h.vars e) hs

module _ (term : Item → List ℕ) where
  push_ascends : (t : Item) (ts : List Item) (gs : List Group) → Ahead later t ts → First ts gs
      → Ascending (map (shown term) gs) → Ascending (map (shown term) (push t gs))
  unfolding shown
  push_ascends t ts [] a f k = unfold push in (tt, tt)
  push_ascends t [] (g ∷ gs) a f k = absurd f
  push_ascends t (u ∷ ts) (g ∷ gs) a f k =
      push_by (λ (l : List Group). Ascending (map (shown term) l)) t g gs new (λ e. k)
    where
      new : (before_vars t.vars g.vars ≡ true) ⊎ (before_vars g.vars t.vars ≡ true)
          → Ascending (map (shown term) (record { vars = t.vars; terms = t ∷ [] } ∷ g ∷ gs))
      new (inl e) = ((e, after_trans t.vars g.vars (map (shown term) gs) e k.0), k)
      new (inr e) = not_both (later_vars t u (subst (λ (v : List ℕ). before_vars v t.vars ≡ true) f e)) a.0

  split_ascends : (ts : List Item) → Sorted later ts → Ascending (map (shown term) (split ts))
  unfolding split
  split_ascends [] s = tt
  split_ascends (t ∷ ts) s = push_ascends t ts (split ts) s.0 (split_first ts) (split_ascends ts s.1)

  pub groups_ascend : (list : ℕ → List Monomial) (roots : List Root) → Ascending (map (shown term) (groups list roots))
  unfolding groups
  groups_ascend list roots = split_ascends (sort later (items list roots)) (sorted_sort later later_asym later_trans later_total (items list roots))

-- A coefficient that is listed is a value, 1 to p − 1.
abbrev pub Valued : ℕ → Item → Type 0
Valued p t = (1 ≤ t.coef) × (t.coef < p)

-- What the lists of roots keep is kept by the items that they make: `P` of a monomial, `Q` of an item.
module _ (P : Monomial → Type 0) (Q : Item → Type 0)
    (made : (r : Root) (m : Monomial) → (m.coef ≡ 0 → ⊥) → P m → Q (record { vars = m.vars; index = r.index; field = r.field; coef = m.coef })) where
  pub items_of_lem : (r : Root) (ms : List Monomial) → All P ms → All Q (items_of r ms)
  unfolding items_of
  items_of_lem r [] k = tt
  items_of_lem r (m ∷ ms) k =
      let ih = items_of_lem r ms in
      by_test (All Q) (eqb m.coef 0) (λ e. ih k.1) (λ e. (made r m (eqb-false m.coef 0 e) k.0, ih k.1))

  pub items_all : (list : ℕ → List Monomial) (roots : List Root) → All (λ (r : Root). All P (list r.node)) roots → All Q (items list roots)
  unfolding items flat_map
  items_all list [] k = tt
  items_all list (r ∷ roots) k =
      all_append Q (items_of r (list r.node)) (items list roots) (items_of_lem r (list r.node) k.0) (items_all list roots k.1)

module _ (p : ℕ) (term : Item → List ℕ) (coefficient : List ℕ → ℕ) (same : (t : Item) → coefficient (term t) ≡ t.coef) where
  term_value : (t : Item) → Valued p t → (1 ≤ coefficient (term t)) × (coefficient (term t) < p)
  term_value t h = subst (λ (c : ℕ). (1 ≤ c) × (c < p)) (sym (same t)) h

  push_nonzero : (t : Item) (gs : List Group) → Valued p t → NonZero p coefficient (map (shown term) gs)
      → NonZero p coefficient (map (shown term) (push t gs))
  unfolding shown
  push_nonzero t [] h k = let v = term_value t h in unfold push in ((v.0, v.1, tt), tt)
  push_nonzero t (g ∷ gs) h k =
      let v = term_value t h in
      push_by (λ (l : List Group). NonZero p coefficient (map (shown term) l)) t g gs (λ e. ((v.0, v.1, tt), k)) (λ e. ((v.0, v.1, k.0), k.1))

  split_nonzero : (ts : List Item) → All (Valued p) ts → NonZero p coefficient (map (shown term) (split ts))
  unfolding split
  split_nonzero [] k = tt
  split_nonzero (t ∷ ts) k = push_nonzero t (split ts) k.0 (split_nonzero ts k.1)

  pub groups_nonzero : (list : ℕ → List Monomial) (roots : List Root) → All (λ (r : Root). All (Small p) (list r.node)) roots
      → NonZero p coefficient (map (shown term) (groups list roots))
  unfolding groups
  groups_nonzero list roots small =
      split_nonzero (sort later (items list roots))
      (sort_all later (Valued p) (items list roots) (items_all (Small p) (Valued p) (λ r m z h. (omega arith, h)) list roots small))

-- The value of some items, of which those count whose index and field are asked for; and of some roots.
share : (ℕ → ℕ → Bool) → Item → ℕ
share hit t = cond (hit t.index t.field) t.coef 0

module _ (p : ℕ) (w : List ℕ → ℕ) (hit : ℕ → ℕ → Bool) where
  items_val : List Item → ℕ
  items_val [] = 0
  items_val (t ∷ ts) = add_m p (mul_m p (share hit t) (w t.vars)) (items_val ts)

  unfoldable pub roots_val : (ℕ → List Monomial) → List Root → ℕ
  roots_val list [] = 0
  roots_val list (r ∷ roots) = add_m p (cond (hit r.index r.field) (val p w (list r.node)) 0) (roots_val list roots)

  items_cons : (t : Item) (ts : List Item) → items_val (t ∷ ts) ≡ add_m p (mul_m p (share hit t) (w t.vars)) (items_val ts)
  unfolding items_val
  items_cons t ts = refl

  roots_cons : (list : ℕ → List Monomial) (r : Root) (roots : List Root)
      → roots_val list (r ∷ roots) ≡ add_m p (cond (hit r.index r.field) (val p w (list r.node)) 0) (roots_val list roots)
  unfolding roots_val
  roots_cons list r roots = refl

cond_zero : (b : Bool) (c : ℕ) → c ≡ 0 → cond b c 0 ≡ 0
cond_zero true c e = e
cond_zero false c e = refl

module _ (p : ℕ) (big : 1 < p) (w : List ℕ → ℕ) (hit : ℕ → ℕ → Bool) where
  items_lt : (ts : List Item) → items_val p w hit ts < p
  unfolding items_val
  items_lt [] = omega arith
  items_lt (t ∷ ts) = add_m_lt p big (mul_m p (share hit t) (w t.vars)) (items_val p w hit ts)

  items_append : (ts us : List Item) → items_val p w hit (ts ++ us) ≡ add_m p (items_val p w hit ts) (items_val p w hit us)
  items_append [] us = unfold items_val in (sym (zero_add_m p big (items_val p w hit us) (items_lt us)))
  items_append (t ∷ ts) us = let ih = items_append ts us in simp (items_cons, ih, add_m_assoc)

  -- A monomial that is left out is worth nothing.
  of_cons : (r : Root) (m : Monomial) (ms : List Monomial) → items_val p w hit (items_of r (m ∷ ms))
      ≡ add_m p (mul_m p (cond (hit r.index r.field) m.coef 0) (w m.vars)) (items_val p w hit (items_of r ms))
  unfolding items_of share
  of_cons r m ms =
      by_test (λ (l : List Item). items_val p w hit l
      ≡ add_m p (mul_m p (cond (hit r.index r.field) m.coef 0) (w m.vars)) (items_val p w hit (items_of r ms)))
      (eqb m.coef 0)
      (λ e. rw (cond_zero (hit r.index r.field) m.coef (eqb-true m.coef 0 e), zero_mul_m)
      (sym (zero_add_m p big (items_val p w hit (items_of r ms)) (items_lt (items_of r ms)))))
      (λ e. items_cons p w hit _ (items_of r ms))

  -- The items of one root are worth its list where it is asked for, and nothing elsewhere.
  root_items : (r : Root) (ms : List Monomial) (b : Bool) → hit r.index r.field ≡ b → items_val p w hit (items_of r ms) ≡ cond b (val p w ms) 0
  root_items r [] true h = unfold items_of items_val val in refl
  root_items r (m ∷ ms) true h = let ih = root_items r ms true h in simp (of_cons, h, ih, val_cons, val_one)
  root_items r [] false h = unfold items_of items_val in refl
  root_items r (m ∷ ms) false h = let ih = root_items r ms false h in simp (of_cons, h, ih, zero_mul_m) (zero_add_m p big 0 (omega arith))

  items_roots : (list : ℕ → List Monomial) (roots : List Root) → items_val p w hit (items list roots) ≡ roots_val p w hit list roots
  unfolding items flat_map
  items_roots list [] = unfold items_val roots_val in refl
  items_roots list (r ∷ roots) =
      let ih = items_roots list roots in
      items_append (items_of r (list r.node)) (items list roots)
      ∙ simp (roots_cons, root_items r (list r.node) (hit r.index r.field) refl, ih)

  sort_items : (ts : List Item) → items_val p w hit (sort later ts) ≡ items_val p w hit ts
  sort_items = sort_same later (items_val p w hit) (λ t ts us e. simp (items_cons, e)) (λ t u ts. simp (items_cons, sums))

-- The sum of the listed terms.
module _ (p : ℕ) (A : Leaf → ℕ) (carries : List ℕ → Bool) (coefficient : List ℕ → ℕ) where
  terms_nil : (m : ℕ) → sum_terms p m carries coefficient [] ≡ 0
  unfolding sum_terms
  terms_nil m = refl

  terms_cons : (m : ℕ) (t : List ℕ) (ts : List (List ℕ)) → sum_terms p m carries coefficient (t ∷ ts)
      ≡ add_m p (cond (carries t) (mul_m p (coefficient t) m) 0) (sum_terms p m carries coefficient ts)
  unfolding sum_terms
  terms_cons m t ts = refl

  sum_cons : (h : Listed) (hs : List Listed) → sum_of p A carries coefficient (h ∷ hs)
      ≡ add_m p (sum_terms p (product_of p A h.vars) carries coefficient h.terms) (sum_of p A carries coefficient hs)
  unfolding sum_of
  sum_cons h hs = refl

module _ (p : ℕ) (big : 1 < p) (A : Leaf → ℕ) (hit : ℕ → ℕ → Bool) (term : Item → List ℕ) (carries : List ℕ → Bool)
    (coefficient : List ℕ → ℕ) (asked : (t : Item) → carries (term t) ≡ hit t.index t.field)
    (same : (t : Item) → coefficient (term t) ≡ t.coef) where
  abbrev sum_shown : List Group → ℕ
  sum_shown gs = sum_of p A carries coefficient (map (shown term) gs)

  -- A coefficient is taken in before or after it is multiplied.
  cond_mul : (b : Bool) (c m : ℕ) → cond b (mul_m p c m) 0 ≡ mul_m p (cond b c 0) m
  cond_mul true c m = refl
  cond_mul false c m = sym (zero_mul_m p m)

  term_share : (t : Item) (m : ℕ) → cond (carries (term t)) (mul_m p (coefficient (term t)) m) 0 ≡ mul_m p (share hit t) m
  unfolding share
  term_share t m = rw (asked t, same t) (cond_mul (hit t.index t.field) t.coef m)

  new_sum : (t : Item) (gs : List Group) → sum_shown (record { vars = t.vars; terms = t ∷ [] } ∷ gs)
      ≡ add_m p (mul_m p (share hit t) (product_of p A t.vars)) (sum_shown gs)
  unfolding shown
  new_sum t gs = simp (sum_cons, terms_cons, terms_nil, term_share, add_m_zero, mul_m_lt)

  old_sum : (t : Item) (g : Group) (gs : List Group) → t.vars ≡ g.vars → sum_shown (record { vars = g.vars; terms = t ∷ g.terms } ∷ gs)
      ≡ add_m p (mul_m p (share hit t) (product_of p A t.vars)) (sum_shown (g ∷ gs))
  unfolding shown
  old_sum t g gs e = simp (sum_cons, terms_cons, term_share, e, add_m_assoc)

  push_sum : (t : Item) (gs : List Group)
      → sum_shown (push t gs) ≡ add_m p (mul_m p (share hit t) (product_of p A t.vars)) (sum_shown gs)
  push_sum t [] = unfold push in (new_sum t [])
  push_sum t (g ∷ gs) =
      push_by (λ (l : List Group). sum_shown l ≡ add_m p (mul_m p (share hit t) (product_of p A t.vars)) (sum_shown (g ∷ gs)))
      t g gs (λ e. new_sum t (g ∷ gs)) (old_sum t g gs)

  split_sum : (ts : List Item) → sum_shown (split ts) ≡ items_val p (product_of p A) hit ts
  unfolding split
  split_sum [] = unfold sum_of items_val in refl
  split_sum (t ∷ ts) = let ih = split_sum ts in simp (push_sum, items_cons, ih)

  pub groups_sum : (list : ℕ → List Monomial) (roots : List Root)
      → sum_of p A carries coefficient (map (shown term) (groups list roots)) ≡ roots_val p (product_of p A) hit list roots
  unfolding groups
  groups_sum list roots =
      split_sum (sort later (items list roots)) ∙ sort_items p big (product_of p A) hit (items list roots)
      ∙ items_roots p big (product_of p A) hit list roots

-- Of numbered elements, where only those numbered i are asked for: the value is that of element i.
module _ (p : ℕ) (big : 1 < p) (w : List ℕ → ℕ) (hit : ℕ → ℕ → Bool) (list : ℕ → List Monomial) where
  roots_lt : (rs : List Root) → roots_val p w hit list rs < p
  unfolding roots_val
  roots_lt [] = omega arith
  roots_lt (r ∷ rs) = add_m_lt p big _ (roots_val p w hit list rs)

  roots_append : (rs ss : List Root)
      → roots_val p w hit list (rs ++ ss) ≡ add_m p (roots_val p w hit list rs) (roots_val p w hit list ss)
  roots_append [] ss = unfold roots_val in (sym (zero_add_m p big (roots_val p w hit list ss) (roots_lt ss)))
  roots_append (r ∷ rs) ss = let ih = roots_append rs ss in simp (roots_cons, ih, add_m_assoc)

  -- One root: its list where it is asked for, and nothing elsewhere.
  one_root : (r : Root) (b : Bool) → hit r.index r.field ≡ b → roots_val p w hit list (r ∷ []) ≡ cond b (val p w (list r.node)) 0
  one_root r true h = unfold roots_val in (rw h (add_m_zero p big (val p w (list r.node)) (val_lt p big w (list r.node))))
  one_root r false h = unfold roots_val in (rw h (add_m_zero p big 0 (omega arith)))

  module _ {X : Type 0} (f : ℕ → X → List Root) where
    labelled_cons : (n : ℕ) (x : X) (xs : List X)
        → roots_val p w hit list (labelled f n (x ∷ xs)) ≡ add_m p (roots_val p w hit list (f n x)) (roots_val p w hit list (labelled f (suc n) xs))
    unfolding labelled
    labelled_cons n x xs = roots_append (f n x) (labelled f (suc n) xs)

    labelled_none : (n : ℕ) (xs : List X) → ((k : ℕ) (x : X) → n ≤ k → roots_val p w hit list (f k x) ≡ 0)
        → roots_val p w hit list (labelled f n xs) ≡ 0
    labelled_none n [] none = unfold labelled roots_val in refl
    labelled_none n (x ∷ xs) none =
        let ih = labelled_none (suc n) xs (λ k y h. none k y (omega arith)) in
        simp (labelled_cons, none n x (omega arith), ih) (zero_add_m p big 0 (omega arith))

    labelled_from : (d : X) (i k n : ℕ) (xs : List X) → n + k ≡ i → k < length xs
        → ((m : ℕ) (x : X) → (m ≡ i → ⊥) → roots_val p w hit list (f m x) ≡ 0)
        → roots_val p w hit list (labelled f n xs) ≡ roots_val p w hit list (f i (get_or xs k d))
    labelled_from d i k n [] e h other = absurd (omega arith)
    labelled_from d i zero n (x ∷ xs) e h other =
        let none = labelled_none (suc n) xs (λ m y g. other m y (omega arith)) in
        let q : n ≡ i = omega arith in
        simp (labelled_cons, none, add_m_zero, roots_lt) (ap (λ (m : ℕ). roots_val p w hit list (f m x)) q)
    labelled_from d i (suc k) n (x ∷ xs) e h other =
        let ih = labelled_from d i k (suc n) xs (omega arith) (omega arith) other in
        simp (labelled_cons, other n x (omega arith), ih, zero_add_m, roots_lt)

    pub labelled_val : (d : X) (i : ℕ) (xs : List X) → i < length xs
        → ((m : ℕ) (x : X) → (m ≡ i → ⊥) → roots_val p w hit list (f m x) ≡ 0)
        → roots_val p w hit list (labelled f 0 xs) ≡ roots_val p w hit list (f i (get_or xs i d))
    labelled_val d i xs h other = labelled_from d i i 0 xs (omega arith) h other

  -- One root to an element.
  labelled_one : {X : Type 0} (root : ℕ → X → Root) (d : X) (i : ℕ) (xs : List X) → i < length xs
      → ((m : ℕ) (x : X) → (m ≡ i → ⊥) → hit (root m x).index (root m x).field ≡ false)
      → ((x : X) → hit (root i x).index (root i x).field ≡ true)
      → roots_val p w hit list (labelled (λ n x. root n x ∷ []) 0 xs) ≡ val p w (list (root i (get_or xs i d)).node)
  labelled_one root d i xs h other here =
      labelled_val (λ n x. root n x ∷ []) d i xs h (λ m x e. one_root (root m x) false (other m x e))
      ∙ one_root (root i (get_or xs i d)) true (here (get_or xs i d))

module _ (p : ℕ) (big : 1 < p) (w : List ℕ → ℕ) (list : ℕ → List Monomial) (s : Sheet) where
  pub constraint_val : (j : ℕ) → j < length s.constraints
      → roots_val p w (λ index field. eqb index j) list (constraint_roots s) ≡ val p w (list (constraint_at s j))
  unfolding constraint_roots constraint_at
  constraint_val j h =
      labelled_one p big w (λ index field. eqb index j) list (λ n c. record { node = c; index = n; field = 0 }) 0 j s.constraints h
      (λ m c. ne_eqb m j) (λ c. eq-eqb j j refl)

  pub count_val : (i : ℕ) → i < length s.interactions
      → roots_val p w (λ index field. eqb index i) list (count_roots s) ≡ val p w (list (interaction_at s i).count)
  unfolding count_roots interaction_at
  count_val i h =
      labelled_one p big w (λ index field. eqb index i) list (λ n (x : Interaction). record { node = x.count; index = n; field = 0 })
      no_interaction i s.interactions h (λ m x. ne_eqb m i) (λ x. eq-eqb i i refl)

  pub field_val : (i f : ℕ) → i < length s.interactions → f < length (interaction_at s i).message
      → roots_val p w (λ index field. eqb index i && eqb field f) list (field_roots s) ≡ val p w (list (field_at s i f))
  unfolding field_roots field_at interaction_at
  field_val i f h k =
      labelled_val p big w hit list _ no_interaction i s.interactions h
      (λ m x e. labelled_none p big w hit list _ 0 x.message (λ g c z. one_root p big w hit list _ false (rw (ne_eqb m i e))))
      ∙ labelled_one p big w hit list (λ n c. record { node = c; index = i; field = n }) 0 f (interaction_at s i).message k
      (λ m c e. rw (eq-eqb i i refl, ne_eqb m f e)) (λ c. rw (eq-eqb i i refl, eq-eqb f f refl))
    where
      hit : ℕ → ℕ → Bool
      hit index field = eqb index i && eqb field f

-- What an expansion lays out, read back: for any roots, and terms of any width.
abbrev pub laid : (Item → List ℕ) → (width : ℕ) → (ℕ → List Monomial) → List Root → List Listed
laid term width list roots =
    listed width (headers 0 0 (groups list roots)) (variables (groups list roots)) (terms term (groups list roots))

module _ (term : Item → List ℕ) (width : ℕ) (wide : (t : Item) → length (term t) ≡ width) where
  pub laid_ascends : (list : ℕ → List Monomial) (roots : List Root) → Ascending (laid term width list roots)
  laid_ascends list roots = rw (listed_layout term width wide (groups list roots)) (groups_ascend term list roots)

  module _ (coefficient : List ℕ → ℕ) (same : (t : Item) → coefficient (term t) ≡ t.coef) where
    pub laid_nonzero : (p : ℕ) (list : ℕ → List Monomial) (roots : List Root) → All (λ (r : Root). All (Small p) (list r.node)) roots
        → NonZero p coefficient (laid term width list roots)
    laid_nonzero p list roots small = rw (listed_layout term width wide (groups list roots)) (groups_nonzero p term coefficient same list roots small)

    pub laid_sum : (p : ℕ) (big : 1 < p) (A : Leaf → ℕ) (hit : ℕ → ℕ → Bool) (carries : List ℕ → Bool)
        → ((t : Item) → carries (term t) ≡ hit t.index t.field) → (list : ℕ → List Monomial) (roots : List Root)
        → sum_of p A carries coefficient (laid term width list roots) ≡ roots_val p (product_of p A) hit list roots
    laid_sum p big A hit carries asked list roots =
        rw (listed_layout term width wide (groups list roots)) (groups_sum p big A hit term carries coefficient asked same list roots)

-- Constraint terms are two words, the coefficient second; interaction terms three, the coefficient first.
pub constraint_wide : (t : Item) → length (constraint_term t) ≡ 2
unfolding constraint_term
constraint_wide t = refl

pub constraint_coef : (t : Item) → second (constraint_term t) ≡ t.coef
unfolding constraint_term second
constraint_coef t = refl

pub interaction_wide : (t : Item) → length (interaction_term t) ≡ 3
unfolding interaction_term
interaction_wide t = refl

pub interaction_coef : (t : Item) → first (interaction_term t) ≡ t.coef
unfolding interaction_term first
interaction_coef t = refl

module _ (p : ℕ) (big : 1 < p) (A : Leaf → ℕ) (list : ℕ → List Monomial) (s : Sheet) where
  pub constraint_sum : (j : ℕ) → j < length s.constraints
      → sum_of p A (of_constraint j) second (laid constraint_term 2 list (constraint_roots s)) ≡ val p (product_of p A) (list (constraint_at s j))
  unfolding of_constraint constraint_term
  constraint_sum j h =
      laid_sum constraint_term 2 constraint_wide second constraint_coef p big A (λ index field. eqb index j) (of_constraint j) (λ t. refl)
      list (constraint_roots s)
      ∙ constraint_val p big (product_of p A) list s j h

  pub count_sum : (i : ℕ) → i < length s.interactions
      → sum_of p A (of_count i) first (laid interaction_term 3 list (count_roots s)) ≡ val p (product_of p A) (list (interaction_at s i).count)
  unfolding of_count interaction_term
  count_sum i h =
      laid_sum interaction_term 3 interaction_wide first interaction_coef p big A (λ index field. eqb index i) (of_count i) (λ t. refl)
      list (count_roots s)
      ∙ count_val p big (product_of p A) list s i h

  pub field_sum : (i f : ℕ) → i < length s.interactions → f < length (interaction_at s i).message
      → sum_of p A (of_field i f) first (laid interaction_term 3 list (field_roots s)) ≡ val p (product_of p A) (list (field_at s i f))
  unfolding of_field interaction_term
  field_sum i f h k =
      laid_sum interaction_term 3 interaction_wide first interaction_coef p big A (λ index field. eqb index i && eqb field f) (of_field i f)
      (λ t. refl) list (field_roots s)
      ∙ field_val p big (product_of p A) list s i f h k
