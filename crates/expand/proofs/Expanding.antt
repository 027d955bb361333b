-- The ways through a visit of an expansion, by the one law of a visit: the record is expanded already; its children are, one after the other,
-- and then it is; or a child was refused.
use mathlib.Core.Path.{◌≡◌, sym, ap, subst, ◌∙◌, refl}
use mathlib.Core.Bool.{Bool, true, false}
use mathlib.Core.List.{List, [], ◌∷◌, ◌++◌, append_assoc, append-nil}
use Prim.Native.Nat.{ℕ, ◌+◌, ◌*◌, ◌≤◌, ◌<◌}
use native.Mathlib.Omega.{arith}
use lib.ListN.{length, get_or, take, drop, take-append-drop}
use Rattle.std.proofs.lemmas.List.{take_more}
use Rattle.semantics.specs.Value.{node_of}
use Rattle.semantics.specs.Walk.{Below, children, children_at, member}
use Rattle.semantics.proofs.Members.{not_in, mem_get_or, cons_below}
use Rattle.answers.specs.declared.Refusal.{Refusal}
use Rattle.std.specs.Prelude.{Some, None, slice_get, Result, Ok, Err}
use Rattle.records.specs.Access.{node_in, records_of}
use Rattle.records.proofs.Steps.{child_low, child_inside}
use Rattle.records.proofs.Children.{first_all, child_at, child_in, first_same}
use Rattle.records.proofs.Rooting.{visiting_one}
use Rattle.records.specs.Orders.{There, Finishes}
use Rattle.records.proofs.Visited as visited
use Rattle.records.proofs.Visited.{children_new, all_there}
use Rattle.expand.specs.declared.Walk.{Walk}
use Rattle.expand.specs.Walking.{PoolHolds}
use Rattle.expand.specs.Walks.{Holds, Answers, ExpandWalking, ExpandReady, Finishing, Finished, Visited, Walked}
use Rattle.expand.proofs.Far.{same_here, same_then, refused_stays, Far, far_none, far_walking, far_more, far_refused}

-- A record's start in the pool is 0 exactly while it is not expanded.
module _ (ws done pool : List ℕ) (used : ℕ) (h : PoolHolds ws done pool used) (r : ℕ) (l : r < length (records_of ws)) where
  pub fresh : get_or pool (2 * r) 0 ≡ 0 → member r done ≡ false
  fresh e = go (member r done) refl
    where
      go : (t : Bool) → member r done ≡ t → member r done ≡ false
      go true m = absurd (omega (arith, h.behind r m))
      go false m = m

  pub expanded : (get_or pool (2 * r) 0 ≡ 0 → ⊥) → member r done ≡ true
  expanded n = go (member r done) refl
    where
      go : (t : Bool) → member r done ≡ t → member r done ≡ true
      go true m = m
      go false m = absurd (n (h.new r l m))

pub visits_seen : {v : Walk} {r : ℕ} → ExpandReady v r → (get_or v.pool.now (2 * r) 0 ≡ 0 → ⊥) → Visited v r v (Ok tt)
visits_seen {v} {r} p n = (
  same_here v,
  visited.visits_seen v.sheet.words.now v.sheet.checked r p.inside (Holds v) (λ done h. expanded v.sheet.words.now done v.pool.now v.used h r p.inside n),
)

-- A visit of a record, as of a root.
pub as_root : {v : Walk} {r : ℕ} → r < length (records_of v.sheet.words.now) → (w : Walk) (u : Result (Unit {0}) Refusal) → Visited v r w u → Walked v (r ∷ []) w u
as_root {v} {r} l w u f = (f.0, visiting_one v.sheet.words.now v.sheet.checked r l (Holds v) (Answers w u) f.1)

-- The records that are named; j of them are expanded.
pub record Naming (v : Walk) (names : List ℕ) (w : Walk) (j : ℕ) : Type 0 where
  pub far : Far v (take j names) w

module _ {v : Walk} {names : List ℕ} (p : ExpandWalking v) (named : Below (length (records_of v.sheet.words.now)) names) where
  pub naming_none : Naming v names v 0
  naming_none = record { far = far_none p }

  module _ {w : Walk} {j : ℕ} (h : Naming v names w j) where
    module _ (l : j < length names) where
      abbrev r : ℕ
      r = get_or names j 0

      inside : r < length (records_of v.sheet.words.now)
      inside = named r (mem_get_or names j l)

      inside_now : r < length (records_of w.sheet.words.now)
      inside_now = subst (λ (s : List ℕ). r < length (records_of s)) (sym h.far.walked.0.sheet) inside

      pub ready_name : ExpandReady w r
      ready_name = record { walking = far_walking p h.far; inside = inside_now }

      module _ (x : Walk) (u : Result (Unit {0}) Refusal) (f : Visited w (get_or names j 0) x u) where
        one : Walked w (r ∷ []) x u
        one = as_root inside_now x u f

        pub naming_more : {n : Unit {0}} → u ≡ Ok n → Naming v names x (j + 1)
        naming_more g = record {
          far = subst (λ (xs : List ℕ). Far v xs x) (sym (take_more names j 0 l))
              (far_more p h.far (r ∷ []) x u one (cons_below (length (records_of v.sheet.words.now)) r [] inside (λ y i. not_in y i)) g);
        }

        pub naming_refused : {q : Refusal} → u ≡ Err q → Walked v names x u
        naming_refused g =
            let rest : List ℕ = drop (j + 1) names in
            far_refused p h.far (r ∷ []) x u one g rest names
            (sym (take-append-drop (j + 1) names)
            ∙ ap (λ (xs : List ℕ). xs ++ rest) (take_more names j 0 l)
            ∙ append_assoc (take j names) (r ∷ []) rest)

-- A record that is not expanded yet.
pub record Fresh (v : Walk) (r : ℕ) : Type 0 where
  pub ready : ExpandReady v r
  pub free : get_or v.pool.now (2 * r) 0 ≡ 0

module _ {v : Walk} {r : ℕ} (f : Fresh v r) where
  abbrev ws : List ℕ
  ws = v.sheet.words.now

  abbrev p : ExpandWalking v
  p = f.ready.walking

  abbrev l : r < length (records_of ws)
  l = f.ready.inside

  abbrev cs : List ℕ
  cs = children_at (records_of ws) r

  new : (done : List ℕ) → Holds v done → member r done ≡ false
  new done h = fresh ws done v.pool.now v.used h r l f.free

  -- All its children are expanded.
  module _ {w : Walk} (h : Far v (children_at (records_of v.sheet.words.now) r) w) where
    pub finishing : Finishing w r
    unfolding far_walking
    finishing = record {
      ready = record { walking = far_walking p h; inside = subst (λ (s : List ℕ). r < length (records_of s)) (sym h.walked.0.sheet) l };
      new = children_new ws v.sheet.checked r l cs (λ c m. m) p.done (new p.done p.holds);
      there = subst (λ (s : List ℕ). There s r (far_walking p h).done) (sym h.walked.0.sheet) (all_there ws v.sheet.checked r l p.done);
    }

    pub visits : (x : Walk) (u : Result (Unit {0}) Refusal) → Finished w r x u → Visited v r x u
    visits x u g = (
      same_then h.walked.0 g.0,
      visited.visits_new ws v.sheet.checked r l (Holds v) new (Answers x u) (Holds w) h.walked.1
          (subst (λ (s : List ℕ). Finishes s r (Holds w) (Answers x u)) h.walked.0.sheet g.1),
    )

-- Its children are expanded as names are; i of them so far.
abbrev pub Children : (v : Walk) (r : ℕ) (w : Walk) (i : ℕ) → Type 0
Children v r = Naming v (children_at (records_of v.sheet.words.now) r)

module _ {v : Walk} {r : ℕ} (f : Fresh v r) where
  named : Below (length (records_of v.sheet.words.now)) (children_at (records_of v.sheet.words.now) r)
  named = child_inside (ws f) v.sheet.checked r f.ready.inside

  pub children_none : Children v r v 0
  children_none = naming_none f.ready.walking named

  module _ {w : Walk} {i : ℕ} (h : Children v r w i) where
    sheet_is : w.sheet.words.now ≡ v.sheet.words.now
    sheet_is = h.far.walked.0.sheet

    pub children_all : 2 ≤ i → Far v (children_at (records_of v.sheet.words.now) r) w
    children_all all = subst (λ (xs : List ℕ). Far v xs w) (first_all (ws f) v.sheet.checked r f.ready.inside i all) h.far

    -- There is no i-th one.
    pub children_same : None ≡ slice_get (children (node_of (node_in w.sheet.words.now r))) i → Children v r w (i + 1)
    children_same e = record {
      far =
          subst (λ (xs : List ℕ). Far v xs w)
          (sym (first_same (ws f) v.sheet.checked r f.ready.inside i (subst (λ (s : List ℕ). None ≡ slice_get (children (node_of (node_in s r))) i) sheet_is e))) h.far;
    }

    -- There is.
    module _ {c : ℕ} (e : Some c ≡ slice_get (children (node_of (node_in w.sheet.words.now r))) i) where
      there : Some c ≡ slice_get (children (node_of (node_in v.sheet.words.now r))) i
      there = subst (λ (s : List ℕ). Some c ≡ slice_get (children (node_of (node_in s r))) i) sheet_is e

      at : (i < length (cs f)) × (get_or (cs f) i 0 ≡ c)
      at = child_at (ws f) v.sheet.checked r f.ready.inside i there

      pub child_below : c < r
      child_below = child_low (ws f) v.sheet.checked r c (child_in (ws f) v.sheet.checked r f.ready.inside i there)

      pub child_ready : ExpandReady w c
      child_ready = subst (ExpandReady w) at.1 (ready_name f.ready.walking named h at.0)

      module _ (x : Walk) (u : Result (Unit {0}) Refusal) (g : Visited w c x u) where
        visit_named : Visited w (get_or (cs f) i 0) x u
        visit_named = subst (λ (y : ℕ). Visited w y x u) (sym at.1) g

        pub children_more : {n : Unit {0}} → u ≡ Ok n → Children v r x (i + 1)
        children_more = naming_more f.ready.walking named h at.0 x u visit_named

        -- A refusal is the answer for the record.
        pub child_refused : {q : Refusal} → u ≡ Err q → Visited v r x u
        child_refused {q} k =
            let b = naming_refused f.ready.walking named h at.0 x u visit_named k in (
              b.0,
              visited.visits_stopped (ws f) v.sheet.checked r f.ready.inside (Holds v) (new f) (Answers x u) (refused_stays x q k)
                  (cs f) [] (append-nil (cs f)) b.1,
            )
