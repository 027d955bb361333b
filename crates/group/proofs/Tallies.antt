-- Tallies: in what order monomials are counted makes no difference; the counts are those of the groups, and each group's terms are
-- the items with its variables.
use mathlib.Core.Path.{◌≡◌, refl, sym, ◌∙◌, ap, subst}
use mathlib.Core.Logic.{inl, inr}
use mathlib.Core.Bool.{true}
use mathlib.Core.List.{List, [], ◌∷◌, ◌++◌, map}
use Prim.Native.Nat.{ℕ, suc, ◌+◌, ◌≤◌}
use native.Mathlib.Omega.{arith}
use lib.ListN.{length}
use Rattle.semantics.specs.Monomial.{before_vars}
use Rattle.semantics.specs.Group.{Item, Group}
use Rattle.semantics.specs.Lists.{All}
use Rattle.semantics.proofs.Order.{before_vars_trans}
use Rattle.semantics.proofs.Sorting.{all_imply}
use Rattle.group.specs.Grouped.{by_order, Tally, tally, tally_all, select, Ascends, tallied_count, tallied_total}
use Rattle.group.proofs.Gathering.{Side, side, less_is, more_is, same_is, alone, joined, gather, gathered}

abbrev pub once : List ℕ → Tally
once v = record { vars = v; count = 1 }

abbrev pub again : Tally → Tally
again g = record { vars = g.vars; count = suc g.count }

pub tally_nil : (v : List ℕ) → tally v [] ≡ once v ∷ []
unfolding tally
tally_nil v = refl

module _ (v : List ℕ) (g : Tally) (gs : List Tally) where
  pub tally_less : before_vars v g.vars ≡ true → tally v (g ∷ gs) ≡ once v ∷ g ∷ gs
  unfolding tally
  tally_less h = less_is v g.vars (once v ∷ g ∷ gs) (g ∷ tally v gs) (again g ∷ gs) h

  pub tally_more : before_vars g.vars v ≡ true → tally v (g ∷ gs) ≡ g ∷ tally v gs
  unfolding tally
  tally_more h = more_is v g.vars (once v ∷ g ∷ gs) (g ∷ tally v gs) (again g ∷ gs) h

  pub tally_same : v ≡ g.vars → tally v (g ∷ gs) ≡ again g ∷ gs
  unfolding tally
  tally_same h = same_is v g.vars (once v ∷ g ∷ gs) (g ∷ tally v gs) (again g ∷ gs) h

-- Two variable lists, the first before the second, counted in either order.
tally_two : (v w : List ℕ) (gs : List Tally) → before_vars v w ≡ true → tally v (tally w gs) ≡ tally w (tally v gs)
tally_two v w [] h =
    rw (tally_nil v, tally_nil w)
    (tally_less v (once w) [] h ∙ ap (λ (l : List Tally). once v ∷ l) (sym (tally_nil w)) ∙ sym (tally_more w (once v) [] h))
tally_two v w (g ∷ gs) h = go (side v g.vars) (side w g.vars) (tally_two v w gs h)
  where
    new : tally v (g ∷ gs) ≡ once v ∷ g ∷ gs → tally w (tally v (g ∷ gs)) ≡ once v ∷ tally w (g ∷ gs)
    new e = ap (tally w) e ∙ tally_more w (once v) (g ∷ gs) h

    go : Side v g.vars → Side w g.vars → tally v (tally w gs) ≡ tally w (tally v gs)
        → tally v (tally w (g ∷ gs)) ≡ tally w (tally v (g ∷ gs))
    go (inl e) (inl f) ih =
        ap (tally v) (tally_less w g gs f) ∙ tally_less v (once w) (g ∷ gs) h
        ∙ ap (λ (l : List Tally). once v ∷ l) (sym (tally_less w g gs f)) ∙ sym (new (tally_less v g gs e))
    go (inl e) (inr (inl f)) ih =
        ap (tally v) (tally_more w g gs f) ∙ tally_less v g (tally w gs) e
        ∙ ap (λ (l : List Tally). once v ∷ l) (sym (tally_more w g gs f)) ∙ sym (new (tally_less v g gs e))
    go (inl e) (inr (inr f)) ih =
        ap (tally v) (tally_same w g gs f) ∙ tally_less v (again g) gs e
        ∙ ap (λ (l : List Tally). once v ∷ l) (sym (tally_same w g gs f)) ∙ sym (new (tally_less v g gs e))
    go (inr (inl e)) s ih =
        let f = before_vars_trans g.vars v w e h in
        ap (tally v) (tally_more w g gs f) ∙ tally_more v g (tally w gs) e ∙ ap (λ (l : List Tally). g ∷ l) ih
        ∙ sym (tally_more w g (tally v gs) f) ∙ ap (tally w) (sym (tally_more v g gs e))
    go (inr (inr e)) s ih =
        let f = subst (λ (u : List ℕ). before_vars u w ≡ true) e h in
        ap (tally v) (tally_more w g gs f) ∙ tally_same v g (tally w gs) e
        ∙ sym (tally_more w (again g) gs f) ∙ ap (tally w) (sym (tally_same v g gs e))

pub tally_swap : (v w : List ℕ) (gs : List Tally) → tally v (tally w gs) ≡ tally w (tally v gs)
tally_swap v w gs = go (side v w)
  where
    go : Side v w → tally v (tally w gs) ≡ tally w (tally v gs)
    go (inl e) = tally_two v w gs e
    go (inr (inl e)) = sym (tally_two w v gs e)
    go (inr (inr e)) = rw e

pub tally_all_tally : (vs : List (List ℕ)) (w : List ℕ) (gs : List Tally) → tally_all vs (tally w gs) ≡ tally w (tally_all vs gs)
unfolding tally_all
tally_all_tally [] w gs = refl
tally_all_tally (v ∷ vs) w gs = ap (tally_all vs) (tally_swap v w gs) ∙ tally_all_tally vs w (tally v gs)

pub tally_all_append : (vs ws : List (List ℕ)) (gs : List Tally) → tally_all (vs ++ ws) gs ≡ tally_all ws (tally_all vs gs)
unfolding tally_all
tally_all_append [] ws gs = refl
tally_all_append (v ∷ vs) ws gs = tally_all_append vs ws (tally v gs)

-- Groups, counted.
abbrev pub counted : Group → Tally
counted g = record { vars = g.vars; count = length g.terms }

abbrev pub vars_of : List Item → List (List ℕ)
vars_of ts = map (λ (t : Item). t.vars) ts

counted_gather : (t : Item) (gs : List Group) → map counted (gather t gs) ≡ tally t.vars (map counted gs)
unfolding gather
counted_gather t [] = sym (tally_nil t.vars)
counted_gather t (g ∷ gs) = go (side t.vars g.vars) (counted_gather t gs)
  where
    go : Side t.vars g.vars → map counted (gather t gs) ≡ tally t.vars (map counted gs)
        → map counted (gather t (g ∷ gs)) ≡ tally t.vars (map counted (g ∷ gs))
    go (inl e) ih =
        ap (map counted) (less_is t.vars g.vars (alone t ∷ g ∷ gs) (g ∷ gather t gs) (joined t g ∷ gs) e)
        ∙ sym (tally_less t.vars (counted g) (map counted gs) e)
    go (inr (inl e)) ih =
        ap (map counted) (more_is t.vars g.vars (alone t ∷ g ∷ gs) (g ∷ gather t gs) (joined t g ∷ gs) e)
        ∙ ap (λ (l : List Tally). counted g ∷ l) ih
        ∙ sym (tally_more t.vars (counted g) (map counted gs) e)
    go (inr (inr e)) ih =
        ap (map counted) (same_is t.vars g.vars (alone t ∷ g ∷ gs) (g ∷ gather t gs) (joined t g ∷ gs) e)
        ∙ sym (tally_same t.vars (counted g) (map counted gs) e)

pub counted_gathered : (ts : List Item) → map counted (gathered ts) ≡ tally_all (vars_of ts) []
unfolding gathered tally_all
counted_gathered [] = refl
counted_gathered (t ∷ ts) =
    counted_gather t (gathered ts) ∙ ap (tally t.vars) (counted_gathered ts) ∙ sym (tally_all_tally (vars_of ts) t.vars [])

-- Tallies ascend, and only grow.
pub above_tally : (u v : List ℕ) (gs : List Tally) → before_vars u v ≡ true → All (λ (g : Tally). before_vars u g.vars ≡ true) gs
    → All (λ (g : Tally). before_vars u g.vars ≡ true) (tally v gs)
above_tally u v [] h k = rw (tally_nil v) (h, tt)
above_tally u v (g ∷ gs) h k = go (side v g.vars) (above_tally u v gs h k.1)
  where
    go : Side v g.vars → All (λ (g : Tally). before_vars u g.vars ≡ true) (tally v gs)
        → All (λ (g : Tally). before_vars u g.vars ≡ true) (tally v (g ∷ gs))
    go (inl e) ih = rw (tally_less v g gs e) (h, k)
    go (inr (inl e)) ih = rw (tally_more v g gs e) (k.0, ih)
    go (inr (inr e)) ih = rw (tally_same v g gs e) k

pub tally_ascends : (v : List ℕ) (gs : List Tally) → Ascends gs → Ascends (tally v gs)
tally_ascends v [] k = rw (tally_nil v) (tt, tt)
tally_ascends v (g ∷ gs) k = go (side v g.vars) (tally_ascends v gs k.1)
  where
    go : Side v g.vars → Ascends (tally v gs) → Ascends (tally v (g ∷ gs))
    go (inl e) ih =
        rw (tally_less v g gs e) (
          (e, all_imply (λ (x : Tally). before_vars g.vars x.vars ≡ true) (λ (x : Tally). before_vars v x.vars ≡ true) (λ x. before_vars_trans v g.vars x.vars e) gs k.0),
          k,
        )
    go (inr (inl e)) ih = rw (tally_more v g gs e) (above_tally g.vars v gs e k.0, ih)
    go (inr (inr e)) ih = rw (tally_same v g gs e) k

pub tally_all_ascends : (vs : List (List ℕ)) (gs : List Tally) → Ascends gs → Ascends (tally_all vs gs)
unfolding tally_all
tally_all_ascends [] gs k = k
tally_all_ascends (v ∷ vs) gs k = tally_all_ascends vs (tally v gs) (tally_ascends v gs k)

pub tally_grows : (v : List ℕ) (gs : List Tally) → length gs ≤ length (tally v gs)
tally_grows v [] = rw (tally_nil v) (omega arith)
tally_grows v (g ∷ gs) = go (side v g.vars) (tally_grows v gs)
  where
    go : Side v g.vars → length gs ≤ length (tally v gs) → suc (length gs) ≤ length (tally v (g ∷ gs))
    go (inl e) ih = rw (tally_less v g gs e) (omega arith)
    go (inr (inl e)) ih = rw (tally_more v g gs e) (omega arith)
    go (inr (inr e)) ih = rw (tally_same v g gs e) (omega arith)

pub tally_all_grows : (vs : List (List ℕ)) (gs : List Tally) → length gs ≤ length (tally_all vs gs)
unfolding tally_all
tally_all_grows [] gs = omega arith
tally_all_grows (v ∷ vs) gs = omega (arith, tally_grows v gs, tally_all_grows vs (tally v gs))

-- The items that a group would have.
unfoldable pub found : List ℕ → List Group → List Item
found v [] = []
found v (g ∷ gs) = by_order v g.vars [] (found v gs) g.terms

unfoldable pub joined_at : List ℕ → Item → List Item → List Item
joined_at v t l = by_order v t.vars l l (t ∷ l)

found_gather : (v : List ℕ) (t : Item) (gs : List Group) → found v (gather t gs) ≡ joined_at v t (found v gs)
unfolding found gather joined_at
found_gather v t [] = refl
found_gather v t (g ∷ gs) = go (side t.vars g.vars) (side v g.vars) (side v t.vars) (found_gather v t gs)
  where
    F : List Item
    F = by_order v g.vars [] (found v gs) g.terms

    go : Side t.vars g.vars → Side v g.vars → Side v t.vars → found v (gather t gs) ≡ joined_at v t (found v gs)
        → found v (gather t (g ∷ gs)) ≡ joined_at v t (found v (g ∷ gs))
    go (inl e) s (inl f) ih =
        ap (found v) (less_is t.vars g.vars (alone t ∷ g ∷ gs) (g ∷ gather t gs) (joined t g ∷ gs) e)
        ∙ less_is v t.vars [] F (t ∷ []) f
        ∙ sym (less_is v g.vars [] (found v gs) g.terms (before_vars_trans v t.vars g.vars f e))
        ∙ sym (less_is v t.vars F F (t ∷ F) f)
    go (inl e) s (inr (inl f)) ih =
        ap (found v) (less_is t.vars g.vars (alone t ∷ g ∷ gs) (g ∷ gather t gs) (joined t g ∷ gs) e)
        ∙ more_is v t.vars [] F (t ∷ []) f ∙ sym (more_is v t.vars F F (t ∷ F) f)
    go (inl e) s (inr (inr f)) ih =
        ap (found v) (less_is t.vars g.vars (alone t ∷ g ∷ gs) (g ∷ gather t gs) (joined t g ∷ gs) e)
        ∙ same_is v t.vars [] F (t ∷ []) f
        ∙ ap (λ (l : List Item). t ∷ l)
        (sym (less_is v g.vars [] (found v gs) g.terms (subst (λ (u : List ℕ). before_vars u g.vars ≡ true) (sym f) e)))
        ∙ sym (same_is v t.vars F F (t ∷ F) f)
    go (inr (inl e)) (inl f) s ih =
        ap (found v) (more_is t.vars g.vars (alone t ∷ g ∷ gs) (g ∷ gather t gs) (joined t g ∷ gs) e)
        ∙ less_is v g.vars [] (found v (gather t gs)) g.terms f
        ∙ sym (less_is v g.vars [] (found v gs) g.terms f)
        ∙ sym (less_is v t.vars F F (t ∷ F) (before_vars_trans v g.vars t.vars f e))
    go (inr (inl e)) (inr (inl f)) s ih =
        ap (found v) (more_is t.vars g.vars (alone t ∷ g ∷ gs) (g ∷ gather t gs) (joined t g ∷ gs) e)
        ∙ more_is v g.vars [] (found v (gather t gs)) g.terms f ∙ ih
        ∙ ap (joined_at v t) (sym (more_is v g.vars [] (found v gs) g.terms f))
    go (inr (inl e)) (inr (inr f)) s ih =
        ap (found v) (more_is t.vars g.vars (alone t ∷ g ∷ gs) (g ∷ gather t gs) (joined t g ∷ gs) e)
        ∙ same_is v g.vars [] (found v (gather t gs)) g.terms f
        ∙ sym (same_is v g.vars [] (found v gs) g.terms f)
        ∙ sym (less_is v t.vars F F (t ∷ F) (subst (λ (u : List ℕ). before_vars u t.vars ≡ true) (sym f) e))
    go (inr (inr e)) (inl f) s ih =
        ap (found v) (same_is t.vars g.vars (alone t ∷ g ∷ gs) (g ∷ gather t gs) (joined t g ∷ gs) e)
        ∙ less_is v g.vars [] (found v gs) (t ∷ g.terms) f
        ∙ sym (less_is v g.vars [] (found v gs) g.terms f)
        ∙ sym (less_is v t.vars F F (t ∷ F) (subst (λ (u : List ℕ). before_vars v u ≡ true) (sym e) f))
    go (inr (inr e)) (inr (inl f)) s ih =
        ap (found v) (same_is t.vars g.vars (alone t ∷ g ∷ gs) (g ∷ gather t gs) (joined t g ∷ gs) e)
        ∙ more_is v g.vars [] (found v gs) (t ∷ g.terms) f
        ∙ sym (more_is v g.vars [] (found v gs) g.terms f)
        ∙ sym (more_is v t.vars F F (t ∷ F) (subst (λ (u : List ℕ). before_vars u v ≡ true) (sym e) f))
    go (inr (inr e)) (inr (inr f)) s ih =
        ap (found v) (same_is t.vars g.vars (alone t ∷ g ∷ gs) (g ∷ gather t gs) (joined t g ∷ gs) e)
        ∙ same_is v g.vars [] (found v gs) (t ∷ g.terms) f
        ∙ ap (λ (l : List Item). t ∷ l) (sym (same_is v g.vars [] (found v gs) g.terms f))
        ∙ sym (same_is v t.vars F F (t ∷ F) (f ∙ sym e))

pub found_gathered : (v : List ℕ) (ts : List Item) → found v (gathered ts) ≡ select v ts
unfolding found gathered select joined_at
found_gathered v [] = refl
found_gathered v (t ∷ ts) =
    found_gather v t (gathered ts) ∙ ap (λ (l : List Item). by_order v t.vars l l (t ∷ l)) (found_gathered v ts)

-- Each group's terms are the items with its variables.
abbrev pub Whole : List Item → List Group → Type 0
Whole ts gs = All (λ (g : Group). select g.vars ts ≡ g.terms) gs

found_each : (gs : List Group) → Ascends (map counted gs) → All (λ (g : Group). found g.vars gs ≡ g.terms) gs
unfolding found
found_each [] k = tt
found_each (g ∷ gs) k =
    (same_is g.vars g.vars [] (found g.vars gs) g.terms refl, behind gs k.0 (found_each gs k.1))
  where
    behind : (ks : List Group) → All (λ (x : Tally). before_vars g.vars x.vars ≡ true) (map counted ks)
        → All (λ (x : Group). found x.vars gs ≡ x.terms) ks → All (λ (x : Group). found x.vars (g ∷ gs) ≡ x.terms) ks
    behind [] a b = tt
    behind (x ∷ ks) a b = (more_is x.vars g.vars [] (found x.vars gs) g.terms a.0 ∙ b.0, behind ks a.1 b.1)

pub gathered_ascends : (ts : List Item) → Ascends (map counted (gathered ts))
gathered_ascends ts = subst Ascends (sym (counted_gathered ts)) (tally_all_ascends (vars_of ts) [] tt)

pub gathered_whole : (ts : List Item) → Whole ts (gathered ts)
gathered_whole ts = go (gathered ts) (found_each (gathered ts) (gathered_ascends ts))
  where
    go : (ks : List Group) → All (λ (g : Group). found g.vars (gathered ts) ≡ g.terms) ks → Whole ts ks
    go [] a = tt
    go (g ∷ ks) a = (sym (found_gathered g.vars ts) ∙ a.0, go ks a.1)

-- How many items with these variables are counted.
pub count_counted : (v : List ℕ) (gs : List Group) → tallied_count v (map counted gs) ≡ length (found v gs)
unfolding tallied_count found
count_counted v [] = refl
count_counted v (g ∷ gs) = go (side v g.vars) (count_counted v gs)
  where
    go : Side v g.vars → tallied_count v (map counted gs) ≡ length (found v gs)
        → by_order v g.vars 0 (tallied_count v (map counted gs)) (length g.terms) ≡ length (by_order v g.vars [] (found v gs) g.terms)
    go (inl e) ih = less_is v g.vars 0 _ (length g.terms) e ∙ ap length (sym (less_is v g.vars [] (found v gs) g.terms e))
    go (inr (inl e)) ih = more_is v g.vars 0 _ (length g.terms) e ∙ ih ∙ ap length (sym (more_is v g.vars [] (found v gs) g.terms e))
    go (inr (inr e)) ih = same_is v g.vars 0 _ (length g.terms) e ∙ ap length (sym (same_is v g.vars [] (found v gs) g.terms e))

pub count_all : (v : List ℕ) (ts : List Item) → tallied_count v (tally_all (vars_of ts) []) ≡ length (select v ts)
count_all v ts =
    ap (tallied_count v) (sym (counted_gathered ts)) ∙ count_counted v (gathered ts) ∙ ap length (found_gathered v ts)

-- The sum of the counts.
pub total_tally : (v : List ℕ) (gs : List Tally) → tallied_total (tally v gs) ≡ suc (tallied_total gs)
total_tally v [] = unfold tallied_total in (ap tallied_total (tally_nil v))
total_tally v (g ∷ gs) = go (side v g.vars) (total_tally v gs)
  where
    cons : (h : Tally) (hs : List Tally) → tallied_total (h ∷ hs) ≡ h.count + tallied_total hs
    cons h hs = unfold tallied_total in refl

    go : Side v g.vars → tallied_total (tally v gs) ≡ suc (tallied_total gs) → tallied_total (tally v (g ∷ gs)) ≡ suc (tallied_total (g ∷ gs))
    go (inl e) ih = ap tallied_total (tally_less v g gs e) ∙ cons (once v) (g ∷ gs) ∙ omega arith
    go (inr (inl e)) ih = ap tallied_total (tally_more v g gs e) ∙ omega (arith, cons g (tally v gs), cons g gs)
    go (inr (inr e)) ih = ap tallied_total (tally_same v g gs e) ∙ omega (arith, cons (again g) gs, cons g gs)

pub total_all : (vs : List (List ℕ)) (gs : List Tally) → tallied_total (tally_all vs gs) ≡ tallied_total gs + length vs
unfolding tally_all
total_all [] gs = omega arith
total_all (v ∷ vs) gs = total_all vs (tally v gs) ∙ omega (arith, total_tally v gs)

pub length_tally : (v : List ℕ) (gs : List Tally) → length (tally v gs) ≤ suc (length gs)
length_tally v [] = rw (tally_nil v) (omega arith)
length_tally v (g ∷ gs) = go (side v g.vars) (length_tally v gs)
  where
    go : Side v g.vars → length (tally v gs) ≤ suc (length gs) → length (tally v (g ∷ gs)) ≤ suc (suc (length gs))
    go (inl e) ih = rw (tally_less v g gs e) (omega arith)
    go (inr (inl e)) ih = rw (tally_more v g gs e) (omega arith)
    go (inr (inr e)) ih = rw (tally_same v g gs e) (omega arith)

pub length_all : (vs : List (List ℕ)) (gs : List Tally) → length (tally_all vs gs) ≤ length gs + length vs
unfolding tally_all
length_all [] gs = omega arith
length_all (v ∷ vs) gs = omega (arith, length_all vs (tally v gs), length_tally v gs)
