-- Terms placed one by one: each goes behind those of its group, and in the end every group has its terms.
use mathlib.Core.Path.{◌≡◌, refl, sym, ◌∙◌, ap, subst}
use mathlib.Core.Logic.{inl, inr}
use mathlib.Core.Bool.{true}
use mathlib.Core.List.{List, [], ◌∷◌, ◌++◌, map, flat_map, append_assoc, append-nil}
use Prim.Native.Nat.{ℕ, zero, suc, ◌+◌, ◌*◌, ◌-◌, ◌≤◌, ◌<◌}
use native.Mathlib.Omega.{arith}
use lib.ListN.{length, get_or, set, length-append}
use lib.Seq.{sets, sets-eq, drop_at}
use Rattle.slices.proofs.Lists.{flat_length}
use Rattle.semantics.specs.Monomial.{before_vars}
use Rattle.semantics.specs.Group.{Item, Group, terms}
use Rattle.semantics.specs.Call.{zeros, padded}
use Rattle.semantics.specs.Lists.{All}
use Rattle.semantics.proofs.Sorting.{all_within}
use Rattle.semantics.proofs.Calls.{zeros_add, zeros_long, padded_is, padded_length}
use Rattle.group.specs.Grouped.{by_order, Tally, select, Ascends, tallied_count, tallied_total, placed, cursors, RoomForTerms, none}
use Rattle.group.proofs.Gathering.{Side, side, less_is, more_is, same_is}
use Rattle.group.proofs.Tallies.{counted, Whole}

-- Selecting.
pub select_append : (v : List ℕ) (ts us : List Item) → select v (ts ++ us) ≡ select v ts ++ select v us
unfolding select
select_append v [] us = refl
select_append v (t ∷ ts) us = go (side v t.vars) (select_append v ts us)
  where
    go : Side v t.vars → select v (ts ++ us) ≡ select v ts ++ select v us
        → by_order v t.vars (select v (ts ++ us)) (select v (ts ++ us)) (t ∷ select v (ts ++ us))
        ≡ by_order v t.vars (select v ts) (select v ts) (t ∷ select v ts) ++ select v us
    go (inl e) ih = less_is v t.vars _ _ _ e ∙ ih ∙ ap (λ (l : List Item). l ++ select v us) (sym (less_is v t.vars (select v ts) (select v ts) (t ∷ select v ts) e))
    go (inr (inl e)) ih = more_is v t.vars _ _ _ e ∙ ih ∙ ap (λ (l : List Item). l ++ select v us) (sym (more_is v t.vars (select v ts) (select v ts) (t ∷ select v ts) e))
    go (inr (inr e)) ih =
        same_is v t.vars _ _ _ e ∙ ap (λ (l : List Item). t ∷ l) ih
        ∙ ap (λ (l : List Item). l ++ select v us) (sym (same_is v t.vars (select v ts) (select v ts) (t ∷ select v ts) e))

module _ (v : List ℕ) (t : Item) where
  one_same : v ≡ t.vars → select v (t ∷ []) ≡ t ∷ []
  unfolding select
  one_same e = same_is v t.vars [] [] (t ∷ []) e

  one_less : before_vars v t.vars ≡ true → select v (t ∷ []) ≡ []
  unfolding select
  one_less e = less_is v t.vars [] [] (t ∷ []) e

  one_more : before_vars t.vars v ≡ true → select v (t ∷ []) ≡ []
  unfolding select
  one_more e = more_is v t.vars [] [] (t ∷ []) e

  pub select_same : (ts : List Item) → v ≡ t.vars → select v (ts ++ (t ∷ [])) ≡ select v ts ++ (t ∷ [])
  select_same ts e = select_append v ts (t ∷ []) ∙ ap (λ (l : List Item). select v ts ++ l) (one_same e)

  pub select_less : (ts : List Item) → before_vars v t.vars ≡ true → select v (ts ++ (t ∷ [])) ≡ select v ts
  select_less ts e = select_append v ts (t ∷ []) ∙ ap (λ (l : List Item). select v ts ++ l) (one_less e) ∙ append-nil (select v ts)

  pub select_more : (ts : List Item) → before_vars t.vars v ≡ true → select v (ts ++ (t ∷ [])) ≡ select v ts
  select_more ts e = select_append v ts (t ∷ []) ∙ ap (λ (l : List Item). select v ts ++ l) (one_more e) ∙ append-nil (select v ts)

-- Room for items, group by group.
abbrev pub Fit : List Tally → List Item → Type 0
Fit gs ts = All (λ (g : Tally). length (select g.vars ts) ≤ g.count) gs

count_each : (hs : List Tally) → Ascends hs → All (λ (h : Tally). tallied_count h.vars hs ≡ h.count) hs
unfolding tallied_count
count_each [] b = tt
count_each (h ∷ hs) b =
    (same_is h.vars h.vars 0 (tallied_count h.vars hs) h.count refl, behind hs b.0 (count_each hs b.1))
  where
    behind : (ks : List Tally) → All (λ (x : Tally). before_vars h.vars x.vars ≡ true) ks
        → All (λ (x : Tally). tallied_count x.vars hs ≡ x.count) ks → All (λ (x : Tally). tallied_count x.vars (h ∷ hs) ≡ x.count) ks
    behind [] c d = tt
    behind (x ∷ ks) c d =
        (more_is x.vars h.vars 0 (tallied_count x.vars hs) h.count c.0 ∙ d.0, behind ks c.1 d.1)

pub room_fit : (gs : List Tally) (ts : List Item) → Ascends gs → RoomForTerms gs ts → Fit gs ts
room_fit gs ts a r = go gs (count_each gs a)
  where
    go : (hs : List Tally) → All (λ (h : Tally). tallied_count h.vars gs ≡ h.count) hs → Fit hs ts
    go [] c = tt
    go (h ∷ hs) c = (omega (arith, r h.vars, c.0), go hs c.1)

-- Words stored behind a list, and in the middle of one.
set_behind : (P R : List ℕ) (i a : ℕ) → set (P ++ R) (length P + i) a ≡ P ++ set R i a
set_behind [] R i a = ap (λ (k : ℕ). set R k a) (omega arith)
set_behind (x ∷ P) R i a =
    let e : suc (length P) + i ≡ suc (length P + i) = omega arith in
    ap (λ (k : ℕ). set (x ∷ (P ++ R)) k a) e ∙ ap (λ (l : List ℕ). x ∷ l) (set_behind P R i a)

sets_behind : (P R vs : List ℕ) (i : ℕ) → sets (P ++ R) (length P + i) vs ≡ P ++ sets R i vs
sets_behind P R [] i = refl
sets_behind P R (v ∷ vs) i =
    let e : suc (length P + i) ≡ length P + suc i = omega arith in
    ap (λ (l : List ℕ). sets l (suc (length P + i)) vs) (set_behind P R i v)
    ∙ ap (λ (k : ℕ). sets (P ++ set R i v) k vs) e ∙ sets_behind P (set R i v) vs (suc i)

sets_middle : (A M B vs : List ℕ) → length M ≡ length vs → sets (A ++ (M ++ B)) (length A) vs ≡ A ++ (vs ++ B)
sets_middle A M B vs e =
    let n : length A + 0 ≡ length A = omega arith in
    ap (λ (k : ℕ). sets (A ++ (M ++ B)) k vs) (sym n) ∙ sets_behind A (M ++ B) vs 0 ∙ ap (λ (l : List ℕ). A ++ l) front
  where
    front : sets (M ++ B) 0 vs ≡ vs ++ B
    front =
        let l : 0 + length vs ≤ length (M ++ B) = rw (length-append M B) (omega arith) in
        let d : length M ≡ 0 + length vs = omega arith in
        sets-eq vs (M ++ B) 0 l ∙ ap (λ (t : List ℕ). vs ++ t) (drop_at M B (0 + length vs) d)

zeros_none : zeros 0 ≡ []
unfolding zeros
zeros_none = refl

pub padded_full : (ws : List ℕ) (n : ℕ) → length ws ≡ n → padded ws n ≡ ws
padded_full ws n h =
    let z : n - length ws ≡ 0 = omega arith in
    padded_is ws n ∙ rw z (unfold zeros in (append-nil ws))

-- One more run of words behind those that are there.
padded_more : (F vs B : List ℕ) (n : ℕ) → length F + length vs ≤ n → sets (padded F n ++ B) (length F) vs ≡ padded (F ++ vs) n ++ B
padded_more F vs B n h =
    let k : n - length F ≡ length vs + (n - (length F + length vs)) = omega arith in
    let r : ℕ = n - (length F + length vs) in
    let e : padded F n ++ B ≡ F ++ (zeros (length vs) ++ (zeros r ++ B)) =
    ap (λ (l : List ℕ). l ++ B) (padded_is F n ∙ ap (λ (j : ℕ). F ++ zeros j) k ∙ ap (λ (l : List ℕ). F ++ l) (zeros_add (length vs) r))
    ∙ append_assoc F (zeros (length vs) ++ zeros r) B ∙ ap (λ (l : List ℕ). F ++ l) (append_assoc (zeros (length vs)) (zeros r) B) in
    let j : n - length (F ++ vs) ≡ r = ap (λ (m : ℕ). n - m) (length-append F vs) in
    ap (λ (l : List ℕ). sets l (length F) vs) e
    ∙ sets_middle F (zeros (length vs)) (zeros r ++ B) vs (zeros_long (length vs))
    ∙ sym (ap (λ (l : List ℕ). l ++ B) (padded_is (F ++ vs) n ∙ ap (λ (m : ℕ). (F ++ vs) ++ zeros m) j)
    ∙ append_assoc (F ++ vs) (zeros r) B ∙ append_assoc F vs (zeros r ++ B))

-- The place of the next term of group k, in terms.
unfoldable pub spot : List Tally → ℕ → List Item → ℕ
spot [] k done = 0
spot (g ∷ gs) zero done = length (select g.vars done)
spot (g ∷ gs) (suc k) done = g.count + spot gs k done

pub cursor_at : (s : ℕ) (gs : List Tally) (k : ℕ) (done : List Item) → k < length gs → get_or (cursors s gs done) k 0 ≡ s + spot gs k done
unfolding cursors spot
cursor_at s [] k done h = absurd (omega arith)
cursor_at s (g ∷ gs) zero done h = refl
cursor_at s (g ∷ gs) (suc k) done h = cursor_at (s + g.count) gs k done (omega arith) ∙ omega arith

-- Behind the group of t nothing changes, nor before it.
module _ (t : Item) (done : List Item) where
  cursors_behind : (s : ℕ) (gs : List Tally) → All (λ (g : Tally). before_vars t.vars g.vars ≡ true) gs
      → cursors s gs (done ++ (t ∷ [])) ≡ cursors s gs done
  unfolding cursors
  cursors_behind s [] a = refl
  cursors_behind s (g ∷ gs) a =
      ap (λ (l : List Item). (s + length l) ∷ cursors (s + g.count) gs (done ++ (t ∷ []))) (select_more g.vars t done a.0)
      ∙ ap (λ (l : List ℕ). (s + length (select g.vars done)) ∷ l) (cursors_behind (s + g.count) gs a.1)

  pub cursor_step : (s : ℕ) (gs : List Tally) (k : ℕ) → Ascends gs → k < length gs → (get_or gs k none).vars ≡ t.vars
      → set (cursors s gs done) k (suc (get_or (cursors s gs done) k 0)) ≡ cursors s gs (done ++ (t ∷ []))
  unfolding cursors
  cursor_step s [] k a h e = absurd (omega arith)
  cursor_step s (g ∷ gs) zero a h e =
      let n = ap length (select_same g.vars t done e) ∙ length-append (select g.vars done) (t ∷ []) in
      let q : suc (s + length (select g.vars done)) ≡ s + length (select g.vars (done ++ (t ∷ []))) = omega arith in
      ap (λ (m : ℕ). m ∷ cursors (s + g.count) gs done) q
      ∙ ap (λ (l : List ℕ). (s + length (select g.vars (done ++ (t ∷ [])))) ∷ l)
      (sym (cursors_behind (s + g.count) gs (subst (λ (v : List ℕ). All (λ (h : Tally). before_vars v h.vars ≡ true) gs) e a.0)))
  cursor_step s (g ∷ gs) (suc k) a h e =
      let b = subst (λ (v : List ℕ). before_vars g.vars v ≡ true) e (all_within (λ (x : Tally). before_vars g.vars x.vars ≡ true) gs k none a.0 (omega arith)) in
      ap (λ (l : List ℕ). (s + length (select g.vars done)) ∷ l) (cursor_step (s + g.count) gs k a.1 (omega arith) e)
      ∙ ap (λ (l : List Item). (s + length l) ∷ cursors (s + g.count) gs (done ++ (t ∷ []))) (sym (select_less g.vars t done b))

  module _ (term : Item → List ℕ) (width : ℕ) (wide : (u : Item) → length (term u) ≡ width) where
    placed_behind : (gs : List Tally) → All (λ (g : Tally). before_vars t.vars g.vars ≡ true) gs
        → placed term width gs (done ++ (t ∷ [])) ≡ placed term width gs done
    unfolding placed
    placed_behind [] a = refl
    placed_behind (g ∷ gs) a =
        ap (λ (l : List Item). padded (flat_map term l) (width * g.count) ++ placed term width gs (done ++ (t ∷ []))) (select_more g.vars t done a.0)
        ∙ ap (λ (l : List ℕ). padded (flat_map term (select g.vars done)) (width * g.count) ++ l) (placed_behind gs a.1)

    flat_one : (ts : List Item) → flat_map term (ts ++ (t ∷ [])) ≡ flat_map term ts ++ term t
    unfolding flat_map
    flat_one [] = append-nil (term t)
    flat_one (u ∷ ts) = ap (λ (l : List ℕ). term u ++ l) (flat_one ts) ∙ sym (append_assoc (term u) (flat_map term ts) (term t))

    pub place_step : (gs : List Tally) (k : ℕ) (Z : List ℕ) → Ascends gs → k < length gs → (get_or gs k none).vars ≡ t.vars
        → Fit gs (done ++ (t ∷ []))
        → sets (placed term width gs done ++ Z) (width * spot gs k done) (term t) ≡ placed term width gs (done ++ (t ∷ [])) ++ Z
    unfolding placed spot
    place_step [] k Z a h e f = absurd (omega arith)
    place_step (g ∷ gs) zero Z a h e f =
        let F : List ℕ = flat_map term (select g.vars done) in
        let R : List ℕ = placed term width gs done in
        let s = select_same g.vars t done e in
        let n = ap length s ∙ length-append (select g.vars done) (t ∷ []) in
        let l = flat_length term width wide (select g.vars done) in
        let i : width * length (select g.vars done) ≡ length F = omega arith in
        let w = wide t in
        let m : suc (length (select g.vars done)) ≤ g.count = omega (arith, f.0) in
        let b = room width (length (select g.vars done)) g.count m in
        ap (λ (x : List ℕ). sets x (width * length (select g.vars done)) (term t)) (append_assoc (padded F (width * g.count)) R Z)
        ∙ ap (λ (x : ℕ). sets (padded F (width * g.count) ++ (R ++ Z)) x (term t)) i
        ∙ padded_more F (term t) (R ++ Z) (width * g.count) (omega arith)
        ∙ sym (append_assoc (padded (F ++ term t) (width * g.count)) R Z)
        ∙ ap (λ (x : List ℕ). (padded x (width * g.count) ++ R) ++ Z) (sym (flat_one (select g.vars done)) ∙ ap (flat_map term) (sym s))
        ∙ ap (λ (x : List ℕ). (padded (flat_map term (select g.vars (done ++ (t ∷ [])))) (width * g.count) ++ x) ++ Z)
        (sym (placed_behind gs (subst (λ (v : List ℕ). All (λ (h : Tally). before_vars v h.vars ≡ true) gs) e a.0)))
      where
        room : (w x y : ℕ) → suc x ≤ y → w * x + w ≤ w * y
        room w x y h = go (y - suc x) (omega arith)
          where
            go : (d : ℕ) → y ≡ suc x + d → w * x + w ≤ w * y
            go d q = rw q (omega arith)
    place_step (g ∷ gs) (suc k) Z a h e f =
        let b = subst (λ (v : List ℕ). before_vars g.vars v ≡ true) e (all_within (λ (x : Tally). before_vars g.vars x.vars ≡ true) gs k none a.0 (omega arith)) in
        let s = select_less g.vars t done b in
        let P : List ℕ = padded (flat_map term (select g.vars done)) (width * g.count) in
        let l = flat_length term width wide (select g.vars done) in
        let c : length (select g.vars done) ≤ g.count = subst (λ (x : List Item). length x ≤ g.count) s f.0 in
        let n = padded_length (flat_map term (select g.vars done)) (width * g.count) (subst (λ (x : ℕ). x ≤ width * g.count) (sym l) (room width (length (select g.vars done)) g.count c)) in
        let i : width * (g.count + spot gs k done) ≡ length P + width * spot gs k done = omega (arith, n) in
        ap (λ (x : List ℕ). sets x (width * (g.count + spot gs k done)) (term t)) (append_assoc P (placed term width gs done) Z)
        ∙ ap (λ (x : ℕ). sets (P ++ (placed term width gs done ++ Z)) x (term t)) i
        ∙ sets_behind P (placed term width gs done ++ Z) (term t) (width * spot gs k done)
        ∙ ap (λ (x : List ℕ). P ++ x) (place_step gs k Z a.1 (omega arith) e f.1)
        ∙ sym (append_assoc P (placed term width gs (done ++ (t ∷ []))) Z)
        ∙ ap (λ (x : List Item). (padded (flat_map term x) (width * g.count) ++ placed term width gs (done ++ (t ∷ []))) ++ Z) (sym s)
      where
        room : (w x y : ℕ) → x ≤ y → w * x ≤ w * y
        room w x y h = go (y - x) (omega arith)
          where
            go : (d : ℕ) → y ≡ x + d → w * x ≤ w * y
            go d q = rw q (omega arith)

-- Before any term, and after all.
module _ (term : Item → List ℕ) (width : ℕ) where
  pub placed_none : (gs : List Tally) → placed term width gs [] ≡ zeros (width * tallied_total gs)
  unfolding placed select flat_map padded tallied_total
  placed_none [] = let e : 0 ≡ width * 0 = omega arith in sym zeros_none ∙ ap zeros e
  placed_none (g ∷ gs) =
      let e : width * g.count - 0 ≡ width * g.count = omega arith in
      let d : width * g.count + width * tallied_total gs ≡ width * (g.count + tallied_total gs) = omega arith in
      ap (λ (n : ℕ). zeros n ++ placed term width gs []) e ∙ ap (λ (l : List ℕ). zeros (width * g.count) ++ l) (placed_none gs)
      ∙ sym (zeros_add (width * g.count) (width * tallied_total gs)) ∙ ap zeros d

  pub placed_all : ((t : Item) → length (term t) ≡ width) → (gs : List Group) (ts : List Item) → Whole ts gs
      → placed term width (map counted gs) ts ≡ terms term gs
  unfolding placed terms flat_map
  placed_all wide [] ts w = refl
  placed_all wide (g ∷ gs) ts w =
      ap (λ (l : List Item). padded (flat_map term l) (width * length g.terms) ++ placed term width (map counted gs) ts) w.0
      ∙ ap (λ (l : List ℕ). l ++ placed term width (map counted gs) ts)
      (padded_full (flat_map term g.terms) (width * length g.terms) (flat_length term width wide g.terms))
      ∙ ap (λ (l : List ℕ). flat_map term g.terms ++ l) (placed_all wide gs ts w.1)
