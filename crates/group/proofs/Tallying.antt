-- A record's list is counted: what is left of it, counted with those that wait, gives the whole.
use mathlib.Core.Path.{◌≡◌, refl, sym, ◌∙◌, ap, subst}
use mathlib.Core.List.{List, [], ◌∷◌, map}
use Prim.Native.Nat.{ℕ, ◌+◌, ◌*◌, ◌≤◌, ◌<◌}
use native.Mathlib.Omega.{arith}
use lib.ListN.{length, get_or, take}
use Rattle.std.specs.Prelude.{Option, Some, None}
use Rattle.semantics.specs.Lists.{All}
use Rattle.monomial.specs.Words.{read_list, list_in}
use Rattle.group.specs.declared.Groups.{Groups}
use Rattle.group.specs.declared.waits.Waits.{Waits}
use Rattle.group.specs.Grouped.{tally_all, tallied_total, non_zero, list_of, InPool, kept_of}
use Rattle.group.specs.Waiting.{PlaceInside, pool_vars, waiting_vars, Pending, batched}
use Rattle.group.specs.Groups.{tallies, Same, Counted, Awaits, counting, Took, Nexts, Takes}
use Rattle.group.proofs.Tallies.{tally_all_append, tally_all_grows, total_all}
use Rattle.group.proofs.PoolLists.{stands}
use Rattle.group.proofs.KeptPlaces.{kept_inside, kept_few, kept_vars}
use Rattle.group.proofs.Awaiting.{batch_none, batched_none}

pub same_as : (g : Groups) → Same g g
same_as g = record { slice = refl; long = refl; pool = refl }

pub same_on : {g h k : Groups} → Same g h → Same h k → Same g k
same_on s t = record { slice = t.slice ∙ s.slice; long = t.long ∙ s.long; pool = t.pool ∙ s.pool }

-- What holds of a number and a list holds of equal ones.
pub moved : (X : ℕ → List ℕ → Type 0) {n m : ℕ} {P Q : List ℕ} → n ≡ m → P ≡ Q → X n P → X m Q
moved X {n} {m} {P} {Q} e q x = subst (X m) q (subst (λ (k : ℕ). X k P) e x)

-- Those that wait are counted too.
pub counting_more : (g : Groups) (w : Waits) → tallied_total (tallies g) ≤ tallied_total (counting g w)
unfolding batched
counting_more g w = omega (arith, total_all (map (waiting_vars g.pool.now) (take w.count w.places)) (tallies g))

-- Those that waited are put in, and none waits.
module _ {g g₁ h : Groups} {w w₁ v : Waits} (p : g₁ ≡ g) (q : w₁ ≡ w) (a : Awaits g w) (i : Same g₁ h × (tallies h ≡ counting g₁ w₁))
    (e : v ≡ record { places = w₁.places; count = 0 }) where
  put_in : Same g h × (tallies h ≡ counting g w)
  put_in = subst (λ (x : Groups). Same x h × (tallies h ≡ counting x w)) p (subst (λ (y : Waits). Same g₁ h × (tallies h ≡ counting g₁ y)) q i)

  none : v ≡ record { places = w.places; count = 0 }
  none = e ∙ ap (λ (y : Waits). record { places = y.places; count = 0 }) q

  counting_all : counting h v ≡ counting g w
  counting_all = ap (counting h) none ∙ batched_none h.n h.headers.now h.pool.now w.places ∙ put_in.1

  -- What the next monomial asks, and what taking it is.
  pub again_asks : (at : ℕ) → PlaceInside g.pool.now at → tallied_total (counting g w) < 4294967295
      → Awaits h v × PlaceInside h.pool.now at × (tallied_total (counting h v) < 4294967295)
  again_asks at s t = (
    subst (Awaits h) (sym none) (batch_none h.n h.headers.now h.pool.now w.places h.rows a.some).waiting,
    subst (λ (P : List ℕ). PlaceInside P at) (sym put_in.0.pool) s,
    omega (arith, ap tallied_total counting_all),
  )

  pub again : (at : ℕ) (k : Groups) (x : Waits) (u : Option ℕ) → Nexts h v (pool_vars h.pool.now at ∷ []) k x u → Takes g w (pool_vars g.pool.now at ∷ []) k x u
  again at k x (Some near) t =
      (same_on put_in.0 t.0, t.1, t.2 ∙ λ j. tally_all (pool_vars (put_in.0.pool j) at ∷ []) (counting_all j))
  again at k x None t = absurd (omega (arith, t.0, ap (λ (y : Waits). y.count) none))

-- While the list is counted: the monomials that stand at `left` are still to come.
pub record Tallying (g₀ : Groups) (node : ℕ) (g : Groups) (w : Waits) (left : List ℕ) : Type 0 where
  pub same : Same g₀ g
  pub inside : All (PlaceInside g.pool.now) left
  pub awaits : Awaits g w
  pub small : tallied_total (counting g w) + length left ≤ 4294967295
  pub whole : tally_all (map (pool_vars g.pool.now) left) (counting g w) ≡ tally_all (non_zero (list_of g₀.pool.now node)) (tallies g₀)

pub tallying_start : (g : Groups) (node : ℕ) (w : Waits) (left : List ℕ) → InPool g.pool.now node
    → tallied_total (tallies g) + length (list_of g.pool.now node) ≤ 4294967295 → 0 < length w.places → w.count ≡ 0 → left ≡ kept_of g.pool.now node
    → Tallying g node g w left
tallying_start g node w left s t some none e =
    let P : List ℕ = g.pool.now in
    let at : ℕ = get_or P (2 * node) 0 in
    let n : ℕ = get_or P (2 * node + 1) 0 in
    let b : counting g w ≡ tallies g = ap (λ (c : ℕ). batched g.n c g.headers.now P w.places) none ∙ batched_none g.n g.headers.now P w.places in
    let c = s.count_is in
    let f = kept_few P at n in
    record {
      same = same_as g;
      inside = subst (All (PlaceInside P)) (sym e) (kept_inside P at n (stands P node s));
      awaits = subst (λ (k : ℕ). Pending k w.places P (tallies g)) (sym none) (batch_none g.n g.headers.now P w.places g.rows some).waiting;
      small = omega (arith, ap tallied_total b, ap length e);
      whole = (λ i. tally_all (map (pool_vars P) (e i)) (b i)) ∙ ap (λ (vs : List (List ℕ)). tally_all vs (tallies g)) (kept_vars P at n);
    }

-- Of an empty list nothing is counted.
pub tallying_empty : (g : Groups) (node : ℕ) → get_or g.pool.now (2 * node + 1) 0 ≡ 0
    → Counted g g (tally_all (non_zero (list_of g.pool.now node)) (tallies g)) (Some tt)
unfolding tally_all non_zero read_list
tallying_empty g node e =
    let P : List ℕ = g.pool.now in
    (same_as g, ap (λ (n : ℕ). tally_all (non_zero (list_in P (get_or P (2 * node) 0) n)) (tallies g)) (sym e))

module _ {g₀ : Groups} {node : ℕ} {g : Groups} {w : Waits} {left : List ℕ} (t : Tallying g₀ node g w left) where
  module _ {at : ℕ} {left' : List ℕ} (e : left ≡ at ∷ left') where
    -- What the next monomial asks.
    pub tallying_asks : Awaits g w × PlaceInside g.pool.now at × (tallied_total (counting g w) < 4294967295)
    tallying_asks = (t.awaits, (subst (All (PlaceInside g.pool.now)) e t.inside).0, omega (arith, t.small, ap length e))

    pub tallying_step : {g' : Groups} {w' : Waits} → Took g w (pool_vars g.pool.now at ∷ []) g' w' → Tallying g₀ node g' w' left'
    tallying_step {g'} {w'} k =
        let P : List ℕ = g.pool.now in
        let vs : List (List ℕ) = pool_vars P at ∷ [] in
        let more = ap tallied_total k.2 ∙ total_all vs (counting g w) in
        record {
          same = same_on t.same k.0;
          inside = subst (λ (Q : List ℕ). All (PlaceInside Q) left') (sym k.0.pool) (subst (All (PlaceInside P)) e t.inside).1;
          awaits = k.1;
          small = omega (arith, t.small, more, ap length e);
          whole =
              (λ i. tally_all (map (pool_vars (k.0.pool i)) left') (k.2 i)) ∙ sym (tally_all_append vs (map (pool_vars P) left') (counting g w))
              ∙ ap (λ (l : List ℕ). tally_all (map (pool_vars P) l) (counting g w)) (sym e) ∙ t.whole;
        }

  -- However much more comes, the slice stays too short.
  pub tallying_full : length g.headers.now < 4 * length (counting g w)
      → length g₀.headers.now < 4 * length (tally_all (non_zero (list_of g₀.pool.now node)) (tallies g₀))
  tallying_full k =
      omega (arith, k, t.same.long, tally_all_grows (map (pool_vars g.pool.now) left) (counting g w), ap length t.whole)

  pub tallying_done : left ≡ [] → (g' : Groups) (u : Option (Unit {0})) → Counted g g' (counting g w) u
      → Counted g₀ g' (tally_all (non_zero (list_of g₀.pool.now node)) (tallies g₀)) u
  unfolding tally_all
  tallying_done e g' (Some _) c =
      (same_on t.same c.0, c.1 ∙ sym (ap (λ (l : List ℕ). tally_all (map (pool_vars g.pool.now) l) (counting g w)) e) ∙ t.whole)
  tallying_done e g' None c =
      omega (arith, c, t.same.long, ap length (sym (ap (λ (l : List ℕ). tally_all (map (pool_vars g.pool.now) l) (counting g w)) e) ∙ t.whole))
