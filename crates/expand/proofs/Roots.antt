-- Expanding the records that are named, one after the other.
use mathlib.Core.Path.{◌≡◌, refl, sym, subst}
use mathlib.Core.List.{List, [], ◌∷◌, ◌++◌}
use Prim.Native.Nat.{ℕ, ◌*◌, ◌≤◌, ◌<◌}
use native.Mathlib.Omega.{arith}
use lib.ListN.{length, get_or}
use Rattle.semantics.specs.Walk.{Below, order}
use Rattle.semantics.specs.Expand.{expand_all}
use Rattle.semantics.proofs.Members.{not_in}
use Rattle.answers.specs.declared.Refusal.{Refusal}
use Rattle.std.specs.Prelude.{Result, Ok, Err}
use Rattle.semantics.specs.Sheet.{Interaction}
use Rattle.records.specs.declared.interactions.Part.{Part}
use Rattle.records.specs.Access.{records_of}
use Rattle.records.specs.Named.{part_of, parts_of}
use Rattle.records.proofs.Rooting.{order_none}
use Rattle.records.proofs.Named.{PassedRun, run_none, run_done, run_whole, run_next, run_more, Last, last_none, last_more}
use Rattle.expand.specs.declared.Walk.{Walk}
use Rattle.expand.specs.Walking.{PoolHolds}
use Rattle.expand.specs.Walks.{Holds, Answers, ExpandWalking, Walked}
use Rattle.expand.proofs.Far.{Far, far_none, far_walking, far_more, far_refused}

-- A part of each of all these interactions; `left` are those that are still to expand.
pub record Passing (part : Part) (v : Walk) (all : List Interaction) (w : Walk) (left : List Interaction) : Type 0 where
  pub roots : List ℕ
  pub passed : PassedRun (part_of part) all left roots
  pub last : Last all left
  pub far : Far v roots w

module _ {part : Part} {v : Walk} {all : List Interaction} (p : ExpandWalking v × Below (length (records_of v.sheet.words.now)) (parts_of part all)) where
  pub passing_none : {left : List Interaction} → left ≡ all → Passing part v all v left
  passing_none e = record { roots = []; passed = run_none e; last = last_none e; far = far_none p.0 }

  module _ {w : Walk} {left : List Interaction} (h : Passing part v all w left) where
    pub passing_walking : ExpandWalking w
    passing_walking = far_walking p.0 h.far

    pub passing_done : left ≡ [] → Walked v (parts_of part all) w (Ok tt)
    passing_done e = subst (λ (xs : List ℕ). Walked v xs w (Ok tt)) (run_done h.passed e) h.far.walked

    -- One more interaction.
    module _ {x : Interaction} {rest : List Interaction} (e : left ≡ x ∷ rest) {names : List ℕ} (names_are : names ≡ part_of part x) where
      below : Below (length (records_of v.sheet.words.now)) (part_of part x)
      below = run_next h.passed e p.1

      pub next_names : Below (length (records_of w.sheet.words.now)) names
      next_names =
          subst (λ (s : List ℕ). Below (length (records_of s)) names) (sym h.far.walked.0.sheet)
          (subst (Below (length (records_of v.sheet.words.now))) (sym names_are) below)

      module _ (y : Walk) (u : Result (Unit {0}) Refusal) (f : Walked w names y u) where
        next : Walked w (part_of part x) y u
        next = subst (λ (xs : List ℕ). Walked w xs y u) names_are f

        pub passing_more : {n : Unit {0}} → u ≡ Ok n → Passing part v all y rest
        passing_more g = record {
          roots = h.roots ++ part_of part x;
          passed = run_more h.passed e;
          last = last_more h.last e;
          far = far_more p.0 h.far (part_of part x) y u next below g;
        }

        pub passing_refused : {q : Refusal} → u ≡ Err q → Walked v (parts_of part all) y u
        passing_refused g = far_refused p.0 h.far (part_of part x) y u next g (parts_of part rest) (parts_of part all) (sym (run_whole h.passed e))

-- From a pool whose records have no list yet, to all that some roots reach.
module _ (v : Walk) (fresh : v.used ≡ 2 * length (records_of v.sheet.words.now)) (room : 2 * length (records_of v.sheet.words.now) ≤ length v.pool.now)
    (clear : (i : ℕ) → i < length (records_of v.sheet.words.now) → get_or v.pool.now (2 * i) 0 ≡ 0) where
  holds_none : Holds v []
  unfolding expand_all
  holds_none = subst (PoolHolds v.sheet.words.now [] v.pool.now) (sym fresh) (record {
    used_is = refl;
    low = omega arith;
    high = room;
    small = omega arith;
    new = λ i l m. clear i l;
    old = λ i m. not_in i m;
    behind = λ i m. not_in i m;
    before = λ i m. not_in i m;
  })

  pub start_walking : ExpandWalking v
  start_walking = record { done = []; order = order_none v.sheet.words.now; holds = holds_none }

  pub all_expanded : (roots : List ℕ) (w : Walk) (u : Result (Unit {0}) Refusal) → Walked v roots w u → Answers w u (order (records_of v.sheet.words.now) roots)
  unfolding order
  all_expanded roots w u f = f.1 [] (order_none v.sheet.words.now) holds_none
