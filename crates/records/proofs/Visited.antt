-- The one law of a visit, whatever a walk keeps. P and Q are properties of the order of the records done: what holds of the walk's state
-- before, and what holds after. A record that is done already changes nothing; another one is done after its children, which are visited one
-- by one as roots are (`Visiting`); and where a visit of a child stops the walk, the rest changes nothing.
use mathlib.Core.Path.{◌≡◌, sym, ap, subst}
use mathlib.Core.Logic.{◌⊎◌, inl, inr}
use mathlib.Core.Bool.{true, false}
use mathlib.Core.List.{List, ◌∷◌, ◌++◌}
use Prim.Native.Nat.{ℕ, zero, suc, ◌<◌}
use native.Mathlib.Omega.{arith}
use lib.ListN.{length}
use Rattle.semantics.specs.Arithmetic.{prime}
use Rattle.semantics.specs.Answer.{good}
use Rattle.semantics.specs.Check.{read_sheet, check}
use Rattle.semantics.specs.Walk.{Mem, Below, children_at, member, fold_left, visit, Reaches}
use Rattle.semantics.proofs.Walks.{fold_keeps, fold_same, by_seen, fold_has, visit_fuel, visit_reach, reach_le}
use Rattle.semantics.proofs.Orders.{not_mem}
use Rattle.records.specs.Access.{records_of}
use Rattle.records.specs.Orders.{Order, There, Visiting, Visits, Finishes}
use Rattle.records.proofs.Steps.{child_low}
use Rattle.records.proofs.Rooting.{fold_append, order_walk}

-- A property that no further record changes.
abbrev pub Stays : (List ℕ → Type 0) → Type 0
Stays Q = (done : List ℕ) (i : ℕ) → Q done → Q (i ∷ done)

module _ (ws : List ℕ) where
  abbrev E : ℕ
  E = length (records_of ws)

  abbrev ch : ℕ → List ℕ
  ch = children_at (records_of ws)

  -- The order when these are visited, too.
  abbrev pub walked : List ℕ → List ℕ → List ℕ
  walked done cs = fold_left (visit ch E) done cs

  -- What stays is kept by every visit, so that it holds when the rest of the roots is visited.
  module _ (Q : List ℕ → Type 0) (stays : Stays Q) where
    stays_visit : (m : ℕ) (done : List ℕ) (r : ℕ) → Q done → Q (visit ch m done r)
    stays_visit zero done r h = unfold visit in h
    stays_visit (suc m) done r h =
        by_seen Q ch m done r (λ _. h)
        (λ _. stays (fold_left (visit ch m) done (ch r)) r (fold_keeps Q (visit ch m) (ch r) (λ u c _. stays_visit m u c) done h))

    pub visiting_stopped : (P : List ℕ → Type 0) (cs rest : List ℕ) → Visiting ws cs P Q → Visiting ws (cs ++ rest) P Q
    visiting_stopped P cs rest f done o h =
        subst Q (sym (fold_append (visit ch E) done cs rest)) (fold_keeps Q (visit ch E) rest (λ u c _. stays_visit E u c) (walked done cs) (f done o h))

  module _ (checked : check prime ws ≡ good (read_sheet ws)) where
    module _ (r : ℕ) (l : r < E) where
      -- Some of the children, in any order, are visited: the order is one, the record is still not done, and where they are all, all are done.
      module _ (cs : List ℕ) (among : (c : ℕ) → Mem c cs → Mem c (ch r)) (done : List ℕ) where
        pub children_below : Below E cs
        children_below c m = omega (arith, child_low ws checked r c (among c m))

        pub children_order : Order ws done → Order ws (walked done cs)
        children_order o = order_walk ws checked cs children_below done o

        pub children_new : member r done ≡ false → member r (walked done cs) ≡ false
        children_new e = fold_keeps (λ (d : List ℕ). member r d ≡ false) (visit ch E) cs still done e
          where
            still : (d : List ℕ) (c : ℕ) → Mem c cs → member r d ≡ false → member r (visit ch E d c) ≡ false
            still d c m = not_mem r d (visit ch E d c) (λ i. go (visit_reach ch E d c r i))
              where
                go : Mem r d ⊎ Reaches ch c r → Mem r d
                go (inl i) = i
                go (inr s) = absurd (omega (arith, reach_le ch (child_low ws checked) c r s, child_low ws checked r c (among c m)))

        pub children_there : ((c : ℕ) → Mem c (ch r) → Mem c cs) → There ws r (walked done cs)
        children_there all c m = fold_has ch E cs done children_below c (all c m)

      pub all_there : (done : List ℕ) → There ws r (walked done (ch r))
      all_there done = children_there (ch r) (λ c m. m) done (λ c m. m)

      visit_new : (done : List ℕ) → member r done ≡ false → visit ch (suc r) done r ≡ r ∷ walked done (ch r)
      unfolding visit
      visit_new done e =
          rw e (ap (λ (u : List ℕ). r ∷ u)
          (fold_same (visit ch r) (visit ch E) (ch r)
          (λ u c m. visit_fuel ch (child_low ws checked) r E u c (child_low ws checked r c m) (omega (arith, child_low ws checked r c m))) done))

      module _ (P : List ℕ → Type 0) where
        -- It is done already.
        pub visits_seen : ((done : List ℕ) → P done → member r done ≡ true) → Visits ws r P P
        unfolding visit
        visits_seen seen done o h = let e = seen done h in rw e h

        module _ (new : (done : List ℕ) → P done → member r done ≡ false) (Q : List ℕ → Type 0) where
          -- It is not: its children, then itself.
          pub visits_new : (M : List ℕ → Type 0) → Visiting ws (ch r) P M → Finishes ws r M Q → Visits ws r P Q
          visits_new M f g done o h =
              subst Q (sym (visit_new done (new done h)))
              (g (walked done (ch r)) (children_order (ch r) (λ c m. m) done o) (children_new (ch r) (λ c m. m) done (new done h)) (all_there done) (f done o h))

          -- The walk stops at one of its children.
          pub visits_stopped : Stays Q → (cs rest : List ℕ) → cs ++ rest ≡ ch r → Visiting ws cs P Q → Visits ws r P Q
          visits_stopped stays cs rest e f done o h =
              subst Q (sym (visit_new done (new done h)))
              (stays (walked done (ch r)) r (subst (λ (xs : List ℕ). Visiting ws xs P Q) e (visiting_stopped Q stays P cs rest f) done o h))
