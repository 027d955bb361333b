-- Groups as items are gathered one by one: what the terms of a group are, and how many.
use mathlib.Core.Path.{◌≡◌, refl, sym, ◌∙◌, ap, subst}
use mathlib.Core.Logic.{◌⊎◌, inl, inr}
use mathlib.Core.Bool.{Bool, true, false, cond}
use mathlib.Core.List.{List, [], ◌∷◌}
use Prim.Native.Nat.{ℕ}
use Rattle.semantics.specs.Monomial.{before_vars, insert_sorted, sort}
use Rattle.semantics.specs.Group.{Item, later, Group, push, split}
use Rattle.semantics.specs.Lists.{All}
use Rattle.semantics.proofs.Basics.{not_both, cond_true, cond_false}
use Rattle.semantics.proofs.Order.{before_vars_irrefl, before_vars_trans, before_vars_total, before_vars_asym}
use Rattle.semantics.proofs.Sorting.{sort_all, insert_by, insert_nil, sort_nil, sort_cons}
use Rattle.semantics.proofs.Grouping.{later_asym, later_vars}
use Rattle.group.specs.Grouped.{by_order}

-- Where one variable list stands, seen from another.
abbrev pub Side : (v w : List ℕ) → Type 0
Side v w = (before_vars v w ≡ true) ⊎ ((before_vars w v ≡ true) ⊎ (v ≡ w))

pub side : (v w : List ℕ) → Side v w
side v w = go (before_vars v w) (before_vars w v) refl refl
  where
    go : (s t : Bool) → before_vars v w ≡ s → before_vars w v ≡ t → Side v w
    go true t d e = inl d
    go false true d e = inr (inl e)
    go false false d e = inr (inr (before_vars_total v w d e))

module _ {X : Type 0} (v w : List ℕ) (a b c : X) where
  pub less_is : before_vars v w ≡ true → by_order v w a b c ≡ a
  unfolding by_order
  less_is h = cond_true (before_vars v w) a (cond (before_vars w v) b c) h

  pub more_is : before_vars w v ≡ true → by_order v w a b c ≡ b
  unfolding by_order
  more_is h = cond_false (before_vars v w) a (cond (before_vars w v) b c) (before_vars_asym w v h) ∙ cond_true (before_vars w v) b c h

  pub same_is : v ≡ w → by_order v w a b c ≡ c
  unfolding by_order
  same_is e =
      cond_false (before_vars v w) a (cond (before_vars w v) b c) (subst (λ (z : List ℕ). before_vars v z ≡ false) e (before_vars_irrefl v))
      ∙ cond_false (before_vars w v) b c (subst (λ (z : List ℕ). before_vars z v ≡ false) e (before_vars_irrefl v))

-- A group of one item, and a group with one more item in front.
abbrev pub alone : Item → Group
alone t = record { vars = t.vars; terms = t ∷ [] }

abbrev pub joined : Item → Group → Group
joined t g = record { vars = g.vars; terms = t ∷ g.terms }

-- An item into the group with its variables, or as a new group in its place.
unfoldable pub gather : Item → List Group → List Group
gather t [] = alone t ∷ []
gather t (g ∷ gs) = by_order t.vars g.vars (alone t ∷ g ∷ gs) (g ∷ gather t gs) (joined t g ∷ gs)

unfoldable pub gathered : List Item → List Group
gathered [] = []
gathered (t ∷ ts) = gather t (gathered ts)

module _ (t : Item) (g : Group) (gs : List Group) where
  gather_less : before_vars t.vars g.vars ≡ true → gather t (g ∷ gs) ≡ alone t ∷ g ∷ gs
  unfolding gather
  gather_less h = less_is t.vars g.vars (alone t ∷ g ∷ gs) (g ∷ gather t gs) (joined t g ∷ gs) h

  gather_more : before_vars g.vars t.vars ≡ true → gather t (g ∷ gs) ≡ g ∷ gather t gs
  unfolding gather
  gather_more h = more_is t.vars g.vars (alone t ∷ g ∷ gs) (g ∷ gather t gs) (joined t g ∷ gs) h

  gather_same : t.vars ≡ g.vars → gather t (g ∷ gs) ≡ joined t g ∷ gs
  unfolding gather
  gather_same h = same_is t.vars g.vars (alone t ∷ g ∷ gs) (g ∷ gather t gs) (joined t g ∷ gs) h

  push_less : before_vars t.vars g.vars ≡ true → push t (g ∷ gs) ≡ alone t ∷ g ∷ gs
  unfolding push by_order
  push_less h = less_is t.vars g.vars (alone t ∷ g ∷ gs) (alone t ∷ g ∷ gs) (joined t g ∷ gs) h

  push_more : before_vars g.vars t.vars ≡ true → push t (g ∷ gs) ≡ alone t ∷ g ∷ gs
  unfolding push by_order
  push_more h = more_is t.vars g.vars (alone t ∷ g ∷ gs) (alone t ∷ g ∷ gs) (joined t g ∷ gs) h

  push_same : t.vars ≡ g.vars → push t (g ∷ gs) ≡ joined t g ∷ gs
  unfolding push by_order
  push_same h = same_is t.vars g.vars (alone t ∷ g ∷ gs) (alone t ∷ g ∷ gs) (joined t g ∷ gs) h

gather_nil : (t : Item) → gather t [] ≡ alone t ∷ []
unfolding gather
gather_nil t = refl

push_nil : (t : Item) → push t [] ≡ alone t ∷ []
unfolding push
push_nil t = refl

-- Before a first group that does not stand before it, an item is pushed as it is gathered.
push_first : (t : Item) (g : Group) (gs : List Group) → before_vars g.vars t.vars ≡ false → push t (g ∷ gs) ≡ gather t (g ∷ gs)
push_first t g gs h = go (side t.vars g.vars)
  where
    go : Side t.vars g.vars → push t (g ∷ gs) ≡ gather t (g ∷ gs)
    go (inl e) = push_less t g gs e ∙ sym (gather_less t g gs e)
    go (inr (inl e)) = not_both e h
    go (inr (inr e)) = push_same t g gs e ∙ sym (gather_same t g gs e)

push_front : (t s : Item) (gs : List Group) → before_vars s.vars t.vars ≡ false → push t (push s gs) ≡ gather t (push s gs)
push_front t s [] h = rw (push_nil s) (push_first t (alone s) [] h)
push_front t s (g ∷ gs) h = go (side s.vars g.vars)
  where
    go : Side s.vars g.vars → push t (push s (g ∷ gs)) ≡ gather t (push s (g ∷ gs))
    go (inl e) = rw (push_less s g gs e) (push_first t (alone s) (g ∷ gs) h)
    go (inr (inl e)) = rw (push_more s g gs e) (push_first t (alone s) (g ∷ gs) h)
    go (inr (inr e)) = rw (push_same s g gs e) (push_first t (joined s g) gs (subst (λ (v : List ℕ). before_vars v t.vars ≡ false) e h))

-- An item with variables before those of another: which of the two comes first makes no difference.
push_gather : (s t : Item) (gs : List Group) → before_vars s.vars t.vars ≡ true → push s (gather t gs) ≡ gather t (push s gs)
push_gather s t [] h =
    ap (push s) (gather_nil t) ∙ push_less s (alone t) [] h
    ∙ ap (λ (l : List Group). alone s ∷ l) (sym (gather_nil t)) ∙ sym (gather_more t (alone s) [] h) ∙ ap (gather t) (sym (push_nil s))
push_gather s t (g ∷ gs) h = go (side s.vars g.vars)
  where
    new : push s (g ∷ gs) ≡ alone s ∷ g ∷ gs → gather t (push s (g ∷ gs)) ≡ alone s ∷ gather t (g ∷ gs)
    new e = ap (gather t) e ∙ gather_more t (alone s) (g ∷ gs) h

    less : before_vars s.vars g.vars ≡ true → Side t.vars g.vars → push s (gather t (g ∷ gs)) ≡ alone s ∷ gather t (g ∷ gs)
    less e (inl f) = rw (gather_less t g gs f) (push_less s (alone t) (g ∷ gs) h)
    less e (inr (inl f)) = rw (gather_more t g gs f) (push_less s g (gather t gs) e)
    less e (inr (inr f)) = rw (gather_same t g gs f) (push_less s (joined t g) gs e)

    go : Side s.vars g.vars → push s (gather t (g ∷ gs)) ≡ gather t (push s (g ∷ gs))
    go (inl e) = less e (side t.vars g.vars) ∙ sym (new (push_less s g gs e))
    go (inr (inl e)) =
        let k = gather_more t g gs (before_vars_trans g.vars s.vars t.vars e h) in
        ap (push s) k ∙ push_more s g (gather t gs) e ∙ ap (λ (l : List Group). alone s ∷ l) (sym k) ∙ sym (new (push_more s g gs e))
    go (inr (inr e)) =
        let f = subst (λ (v : List ℕ). before_vars v t.vars ≡ true) e h in
        ap (push s) (gather_more t g gs f) ∙ push_same s g (gather t gs) e
        ∙ sym (gather_more t (joined s g) gs f) ∙ ap (gather t) (sym (push_same s g gs e))

-- No item with the same variables stands earlier in the order than t; and so for every item and those behind it.
abbrev pub Front : Item → List Item → Type 0
Front t ts = All (λ (u : Item). t.vars ≡ u.vars → later t u ≡ false) ts

abbrev pub Steady : List Item → Type 0
Steady [] = Unit {0}
Steady (t ∷ ts) = Front t ts × Steady ts

split_insert : (t : Item) (ts : List Item) → Front t ts → split (insert_sorted later t ts) ≡ gather t (split ts)
unfolding split
split_insert t [] k = ap split (insert_nil later t) ∙ push_nil t ∙ sym (gather_nil t)
split_insert t (s ∷ ts) k =
    insert_by later (λ (l : List Item). split l ≡ gather t (push s (split ts))) t s ts
    (λ e. ap (push s) (split_insert t ts k.1) ∙ push_gather s t (split ts) (behind e (side s.vars t.vars)))
    (λ e. push_front t s (split ts) (ahead e (side s.vars t.vars)))
  where
    behind : later t s ≡ true → Side s.vars t.vars → before_vars s.vars t.vars ≡ true
    behind e (inl f) = f
    behind e (inr (inl f)) = not_both (later_vars s t f) (later_asym t s e)
    behind e (inr (inr f)) = not_both e (k.0 (sym f))

    ahead : later t s ≡ false → Side s.vars t.vars → before_vars s.vars t.vars ≡ false
    ahead e (inl f) = not_both (later_vars t s f) e
    ahead e (inr (inl f)) = before_vars_asym t.vars s.vars f
    ahead e (inr (inr f)) = subst (λ (v : List ℕ). before_vars s.vars v ≡ false) f (before_vars_irrefl s.vars)

-- The groups of items in a steady order are the gathered ones.
pub split_sort : (ts : List Item) → Steady ts → split (sort later ts) ≡ gathered ts
unfolding split gathered
split_sort [] k = ap split (sort_nil later)
split_sort (t ∷ ts) k =
    ap split (sort_cons later t ts)
    ∙ split_insert t (sort later ts) (sort_all later (λ (u : Item). t.vars ≡ u.vars → later t u ≡ false) ts k.0)
    ∙ ap (gather t) (split_sort ts k.1)
