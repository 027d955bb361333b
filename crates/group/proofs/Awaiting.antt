-- Monomials that wait: where they belong among tallies, how many rows they make, and what is counted with them.
use mathlib.Core.Path.{◌≡◌, refl, sym, ◌∙◌, ap, subst}
use mathlib.Core.Bool.{Bool, true, false, true≢false}
use mathlib.Core.List.{List, [], ◌∷◌, ◌++◌, map, map-append}
use Prim.Native.Nat.{ℕ, zero, suc, ◌+◌, ◌*◌, ◌-◌, ◌≤◌, ◌<◌}
use native.Mathlib.Numerals.{add-one}
use native.Mathlib.Omega.{arith}
use lib.Dec.{ltb}
use lib.ListN.{length, get_or, take, drop, set, drop_of_length-le, length-set, length-append, length-drop}
use lib.Seq.{get_or-set_same, get_or-set_other, get_or-take, drop-cons, take-suc-set, length-take-le}
use borrow.Author.Count.{below_more}
use borrow.Author.Tests.{ltb-true, ltb-false}
use Rattle.semantics.specs.Monomial.{before_vars}
use Rattle.semantics.specs.Lists.{All}
use Rattle.semantics.proofs.Order.{before_vars_trans, before_vars_irrefl}
use Rattle.semantics.proofs.Sorting.{all_within}
use Rattle.std.specs.declared.cmp.Ordering.{Ordering}
use Rattle.std.specs.declared.cmp.Ordering.TheVariants.{Greater}
use Rattle.monomial.specs.Orders.{order_of}
use Rattle.std.specs.Prelude.{Ok, Err}
use Rattle.group.specs.Grouped.{Tally, tally, tally_all, tallied, none, Ascends, Rows, Spot}
use Rattle.group.specs.declared.waits.Waiting.{Waiting}
use Rattle.group.specs.Waiting.{PlaceInside, pool_vars, nobody, waiting_vars, Pending, Batch, batched, MayFollow}
use Rattle.group.proofs.Tallies.{once, again, tally_more, tally_all_tally, tally_all_append, above_tally}
use Rattle.group.proofs.Counting.{Told, order_told, tally_there, tally_missing, count_more}

-- Every tally stands behind v.
abbrev Above : (v : List ℕ) (gs : List Tally) → Type 0
Above v gs = All (λ (g : Tally). before_vars v g.vars ≡ true) gs

spot_above : (v : List ℕ) (gs : List Tally) → Spot v gs (Err 0) → Above v gs
spot_above v [] s = tt
spot_above v (g ∷ gs) s =
    (s.2 0 (omega arith) (omega arith), spot_above v gs (omega arith, (λ i h. absurd (omega arith)), (λ i h l. s.2 (suc i) (omega arith) (omega arith))))

above_spot : (v : List ℕ) (gs : List Tally) → Above v gs → Spot v gs (Err 0)
above_spot v gs a = (omega arith, (λ i h. absurd (omega arith)), (λ i h l. all_within (λ (g : Tally). before_vars v g.vars ≡ true) gs i none a l))

spot_later : (v : List ℕ) (g : Tally) (gs : List Tally) (k : ℕ) → before_vars g.vars v ≡ true → Spot v gs (Err k) → Spot v (g ∷ gs) (Err (suc k))
spot_later v g gs k e s = (omega (arith, s.0), front, behind)
  where
    front : (i : ℕ) → i < suc k → before_vars (get_or (g ∷ gs) i none).vars v ≡ true
    front zero h = e
    front (suc i) h = s.1 i (omega arith)

    behind : (i : ℕ) → suc k ≤ i → i < suc (length gs) → before_vars v (get_or (g ∷ gs) i none).vars ≡ true
    behind zero h l = absurd (omega arith)
    behind (suc i) h l = s.2 i (omega arith) (omega arith)

later_spot : (v : List ℕ) (g : Tally) (gs : List Tally) (k : ℕ) → Spot v (g ∷ gs) (Err (suc k)) → Spot v gs (Err k)
later_spot v g gs k s =
    (omega (arith, s.0), (λ i h. s.1 (suc i) (omega arith)), (λ i h l. s.2 (suc i) (omega arith) (omega arith)))

-- A place among tallies stays where it is when a later variable list is counted.
spot_tally : (v w : List ℕ) (gs : List Tally) (k : ℕ) → Spot v gs (Err k) → before_vars v w ≡ true → Spot v (tally w gs) (Err k)
spot_tally v w gs zero s h = above_spot v (tally w gs) (above_tally v w gs h (spot_above v gs s))
spot_tally v w [] (suc k) s h = absurd (omega (arith, s.0))
spot_tally v w (g ∷ gs) (suc k) s h =
    let e : before_vars g.vars v ≡ true = s.1 0 (omega arith) in
    subst (λ (l : List Tally). Spot v l (Err (suc k))) (sym (tally_more w g gs (before_vars_trans g.vars v w e h)))
    (spot_later v g (tally w gs) k e (spot_tally v w gs k (later_spot v g gs k s) h))

-- Variable lists that all stand behind v.
abbrev pub Behind : (v : List ℕ) (vs : List (List ℕ)) → Type 0
Behind v vs = All (λ (w : List ℕ). before_vars v w ≡ true) vs

pub spot_all : (v : List ℕ) (vs : List (List ℕ)) (gs : List Tally) (k : ℕ) → Spot v gs (Err k) → Behind v vs → Spot v (tally_all vs gs) (Err k)
unfolding tally_all
spot_all v [] gs k s a = s
spot_all v (w ∷ vs) gs k s a = spot_all v vs (tally w gs) k (spot_tally v w gs k s a.0) a.1

behind_trans : (u v : List ℕ) (vs : List (List ℕ)) → before_vars u v ≡ true → Behind v vs → Behind u vs
behind_trans u v [] h a = tt
behind_trans u v (w ∷ vs) h a = (before_vars_trans u v w h a.0, behind_trans u v vs h a.1)

-- Of two lists that are missing the later one does not belong before the other.
pub missing_le_missing : (v w : List ℕ) (gs : List Tally) (k l : ℕ) → Spot v gs (Err k) → Spot w gs (Err l) → before_vars v w ≡ true → k ≤ l
missing_le_missing v w gs k l s t h = go (ltb l k) refl
  where
    go : (x : Bool) → ltb l k ≡ x → k ≤ l
    go false e = ltb-false l k e
    go true e =
        let i : l < k = ltb-true l k e in
        let a = s.1 l i in
        let b = t.2 l (omega arith) (omega (arith, s.0)) in
        absurd (true≢false (sym (before_vars_trans v w v h (before_vars_trans w (get_or gs l none).vars v b a)) ∙ before_vars_irrefl v))

-- One more of a variable list that is missing makes a tally more.
pub length_missing : (v : List ℕ) (gs : List Tally) (k : ℕ) → Spot v gs (Err k) → length (tally v gs) ≡ suc (length gs)
length_missing v gs k s =
    let a : length (take k gs) ≡ k = length-take-le k gs s.0 in
    let b : length (drop k gs) ≡ length gs - k = length-drop k gs in
    let q = s.0 in
    ap length (tally_missing v gs k s) ∙ length-append (take k gs) (once v ∷ drop k gs) ∙ omega arith

-- One more of a variable list that is there leaves the places of others.
module _ (gs : List Tally) (k : ℕ) (h : k < length gs) where
  abbrev more : List Tally
  more = set gs k (again (get_or gs k none))

  vars_kept : (i : ℕ) → (get_or more i none).vars ≡ (get_or gs i none).vars
  vars_kept i = kept gs k i h
    where
      kept : (ks : List Tally) (j i : ℕ) → j < length ks → (get_or (set ks j (again (get_or ks j none))) i none).vars ≡ (get_or ks i none).vars
      kept [] j i l = refl
      kept (g ∷ ks) zero zero l = refl
      kept (g ∷ ks) zero (suc i) l = refl
      kept (g ∷ ks) (suc j) zero l = refl
      kept (g ∷ ks) (suc j) (suc i) l = kept ks j i (omega arith)

  spot_kept : (v : List ℕ) (l : ℕ) → Spot v gs (Err l) → Spot v more (Err l)
  spot_kept v l s =
      let e = length-set gs k (again (get_or gs k none)) in (
        omega (arith, s.0),
        (λ i j. subst (λ (w : List ℕ). before_vars w v ≡ true) (sym (vars_kept i)) (s.1 i j)),
        (λ i j m. subst (λ (w : List ℕ). before_vars v w ≡ true) (sym (vars_kept i)) (s.2 i j (omega arith))),
      )

pub spot_there : (v w : List ℕ) (gs : List Tally) (k l : ℕ) → Ascends gs → Spot w gs (Ok k) → Spot v gs (Err l) → Spot v (tally w gs) (Err l)
spot_there v w gs k l a t s =
    subst (λ (x : List Tally). Spot v x (Err l)) (sym (tally_there w gs k a t.0 t.1)) (spot_kept gs k t.0 v l s)

-- Those that wait, from the j-th on.
abbrev pub waiting_from : (b : ℕ) (waits : List Waiting) (pool : List ℕ) (j : ℕ) → List (List ℕ)
waiting_from b waits pool j = map (waiting_vars pool) (drop j (take b waits))

module _ {b : ℕ} {waits : List Waiting} {pool : List ℕ} {gs : List Tally} (p : Pending b waits pool gs) where
  pub waiting_next : (j : ℕ) → j < b → waiting_from b waits pool j ≡ waiting_vars pool (get_or waits j nobody) ∷ waiting_from b waits pool (suc j)
  waiting_next j h =
      let l : length (take b waits) ≡ b = length-take-le b waits p.room in
      ap (map (waiting_vars pool)) (drop-cons (take b waits) j nobody (omega arith))
      ∙ ap (λ (w : Waiting). waiting_vars pool w ∷ waiting_from b waits pool (suc j)) (get_or-take b waits j nobody h)

  pub waiting_end : (j : ℕ) → b ≤ j → waiting_from b waits pool j ≡ []
  waiting_end j h = ap (map (waiting_vars pool)) (drop_of_length-le (take b waits) {i = j} (subst (λ (x : ℕ). x ≤ j) (sym (length-take-le b waits p.room)) h))

  -- Each stands before all that follow it.
  behind_from : (d j : ℕ) → suc j + d ≡ b → Behind (waiting_vars pool (get_or waits j nobody)) (waiting_from b waits pool (suc j))
  behind_from zero j e = subst (Behind (waiting_vars pool (get_or waits j nobody))) (sym (waiting_end (suc j) (omega arith))) tt
  behind_from (suc d) j e =
      let h = p.ascends j (omega arith) in
      subst (Behind (waiting_vars pool (get_or waits j nobody))) (sym (waiting_next (suc j) (omega arith)))
      (h, behind_trans (waiting_vars pool (get_or waits j nobody)) (waiting_vars pool (get_or waits (suc j) nobody)) (waiting_from b waits pool (suc (suc j))) h (behind_from d (suc j) (omega arith)))

  pub spot_from : (j : ℕ) → j < b → Spot (waiting_vars pool (get_or waits j nobody)) (tally_all (waiting_from b waits pool (suc j)) gs) (Err (get_or waits j nobody).front)
  spot_from j h =
      spot_all (waiting_vars pool (get_or waits j nobody)) (waiting_from b waits pool (suc j)) gs (get_or waits j nobody).front (p.missing j h)
      (behind_from (b - suc j) j (omega arith))

  pub tally_from : (j : ℕ) → j < b
      → tally_all (waiting_from b waits pool j) gs ≡ tally (waiting_vars pool (get_or waits j nobody)) (tally_all (waiting_from b waits pool (suc j)) gs)
  unfolding tally_all
  tally_from j h =
      ap (λ (vs : List (List ℕ)). tally_all vs gs) (waiting_next j h)
      ∙ tally_all_tally (waiting_from b waits pool (suc j)) (waiting_vars pool (get_or waits j nobody)) gs

  length_from : (d j : ℕ) → j + d ≡ b → length (tally_all (waiting_from b waits pool j) gs) ≡ length gs + d
  unfolding tally_all
  length_from zero j e = ap (λ (vs : List (List ℕ)). length (tally_all vs gs)) (waiting_end j (omega arith)) ∙ omega arith
  length_from (suc d) j e =
      let h : j < b = omega arith in
      let ih = length_from d (suc j) (omega arith) in
      ap length (tally_from j h)
      ∙ length_missing (waiting_vars pool (get_or waits j nobody)) (tally_all (waiting_from b waits pool (suc j)) gs) (get_or waits j nobody).front (spot_from j h) ∙ omega arith

  -- As many rows more as monomials wait.
  pub length_waiting : length (tally_all (waiting_from b waits pool 0) gs) ≡ length gs + b
  length_waiting = length_from b 0 (omega arith)

-- A monomial that comes after the last of those that wait may follow them.
pub follows_last : (P : List ℕ) (ws : List Waiting) (b at : ℕ) (o : Ordering)
    → o ≡ order_of (pool_vars P at) (waiting_vars P (get_or ws (b - 1) nobody)) → o ≡ Greater
    → (j : ℕ) → suc j ≡ b → before_vars (waiting_vars P (get_or ws j nobody)) (pool_vars P at) ≡ true
follows_last P ws b at o e q j h =
    let l : ℕ = (get_or ws (b - 1) nobody).place in
    let d : b - 1 ≡ j = omega arith in
    subst (λ (i : ℕ). before_vars (waiting_vars P (get_or ws i nobody)) (pool_vars P at) ≡ true) d
    (subst (Told (pool_vars P at) (pool_vars P l)) q (order_told (pool_vars P at) (pool_vars P l) o e))

-- Nothing waits.
pub batch_none : (n : ℕ) (H P : List ℕ) (ws : List Waiting) → Rows n H P → 0 < length ws → Batch n 0 H P ws
batch_none n H P ws r s = record {
  rows_are = r;
  waiting = record {
    some = s;
    room = omega arith;
    inside = λ j h. absurd (omega arith);
    missing = λ j h. absurd (omega arith);
    ascends = λ j h. absurd (omega arith);
  };
}

pub batched_none : (n : ℕ) (H P : List ℕ) (ws : List Waiting) → batched n 0 H P ws ≡ tallied n H P
unfolding batched tally_all
batched_none n H P ws = refl

pub batched_is : (n b : ℕ) (H P : List ℕ) (ws : List Waiting) → batched n b H P ws ≡ tally_all (waiting_from b ws P 0) (tallied n H P)
unfolding batched
batched_is n b H P ws = refl

module _ (n b : ℕ) (H P : List ℕ) (ws : List Waiting) (v : List ℕ) (t : Batch n b H P ws) where
  -- A monomial that has a row is counted there.
  module _ (k : ℕ) (s : Spot v (tallied n H P) (Ok k)) where
    abbrev H' : List ℕ
    H' = set H (4 * k + 3) (get_or H (4 * k + 3) 0 + 1)

    pub batch_count : Batch n b H' P ws × (batched n b H' P ws ≡ tally_all (v ∷ []) (batched n b H P ws))
    unfolding batched tally_all
    batch_count =
        let c = count_more n k H P v t.rows_are s in
        let p = t.waiting in
        let vs : List (List ℕ) = map (waiting_vars P) (take b ws) in (
          record {
            rows_are = c.0;
            waiting = record {
              some = p.some;
              room = p.room;
              inside = p.inside;
              missing = λ j h. let w = get_or ws j nobody in
                  subst (λ (gs : List Tally). Spot (waiting_vars P w) gs (Err w.front)) (sym c.1)
                  (spot_there (waiting_vars P w) v (tallied n H P) k w.front t.rows_are.ascends s (p.missing j h));
              ascends = p.ascends;
            };
          },
          ap (tally_all vs) c.1 ∙ tally_all_tally vs v (tallied n H P),
        )

  -- One that has none waits.
  module _ (at k : ℕ) (e : v ≡ pool_vars P at) (i : PlaceInside P at) (s : Spot v (tallied n H P) (Err k)) (m : MayFollow b ws P at true) where
    abbrev w : Waiting
    w = record { place = at; front = k }

    abbrev ws' : List Waiting
    ws' = set ws b w

    old : (j : ℕ) → j < b → get_or ws' j nobody ≡ get_or ws j nobody
    old j h = get_or-set_other ws b j w nobody (λ q. absurd (let z : j ≡ b = q in omega arith))

    new : get_or ws' b nobody ≡ w
    new = get_or-set_same ws b w nobody m.0

    -- Something of each of those that waited, and of the new one.
    each : (Q : Waiting → Type 0) → ((j : ℕ) → j < b → Q (get_or ws j nobody)) → Q w → (j : ℕ) → j < b + 1 → Q (get_or ws' j nobody)
    each Q f g = below_more (λ j. Q (get_or ws' j nobody)) b (λ j l. subst Q (sym (old j l)) (f j l)) (subst Q (sym new) g)

    steps : (j : ℕ) → suc j < b + 1 → before_vars (waiting_vars P (get_or ws' j nobody)) (waiting_vars P (get_or ws' (suc j) nobody)) ≡ true
    steps j h = subst (λ (x : Waiting). before_vars (waiting_vars P x) (waiting_vars P (get_or ws' (suc j) nobody)) ≡ true) (sym (old j (omega arith))) (go (ltb (suc j) b) refl)
      where
        go : (x : Bool) → ltb (suc j) b ≡ x → before_vars (waiting_vars P (get_or ws j nobody)) (waiting_vars P (get_or ws' (suc j) nobody)) ≡ true
        go true q =
            let l : suc j < b = ltb-true (suc j) b q in
            subst (λ (x : Waiting). before_vars (waiting_vars P (get_or ws j nobody)) (waiting_vars P x) ≡ true) (sym (old (suc j) l)) (t.waiting.ascends j l)
        go false q =
            let l : b ≤ suc j = ltb-false (suc j) b q in
            let d : suc j ≡ b = omega arith in
            subst (λ (x : Waiting). before_vars (waiting_vars P (get_or ws j nobody)) (waiting_vars P x) ≡ true)
            (sym (ap (λ (x : ℕ). get_or ws' x nobody) d ∙ new)) (m.1 j d)

    pub batch_wait : Batch n (b + 1) H P ws' × (batched n (b + 1) H P ws' ≡ tally_all (v ∷ []) (batched n b H P ws))
    unfolding batched
    batch_wait =
        let p = t.waiting in
        let gs = tallied n H P in
        let a = length-set ws b w in
        let y = p.some in
        let z = m.0 in
        let q : take (b + 1) ws' ≡ take b ws ++ (w ∷ []) = ap (λ (x : ℕ). take x ws') (add-one b) ∙ take-suc-set ws b w m.0 in (
          record {
            rows_are = t.rows_are;
            waiting = record {
              some = omega arith;
              room = omega arith;
              inside = each (λ x. PlaceInside P x.place) (λ j h. p.inside j h) i;
              missing = each (λ x. Spot (waiting_vars P x) gs (Err x.front)) (λ j h. p.missing j h) (subst (λ (u : List ℕ). Spot u gs (Err k)) e s);
              ascends = steps;
            };
          },
          ap (λ (l : List Waiting). tally_all (map (waiting_vars P) l) gs) q
              ∙ ap (λ (l : List (List ℕ)). tally_all l gs) (map-append (waiting_vars P) (take b ws) (w ∷ []))
              ∙ tally_all_append (map (waiting_vars P) (take b ws)) (pool_vars P at ∷ []) gs
              ∙ ap (λ (u : List ℕ). tally_all (u ∷ []) (tally_all (map (waiting_vars P) (take b ws)) gs)) (sym e),
        )
