-- Visiting the records that some words name.
use mathlib.Core.Path.{◌≡◌, refl, sym, subst}
use mathlib.Core.List.{List, [], ◌∷◌, ◌++◌}
use Prim.Native.Nat.{ℕ, suc, ◌<◌}
use native.Mathlib.Omega.{arith}
use lib.ListN.{length}
use Rattle.semantics.specs.Arithmetic.{prime}
use Rattle.semantics.specs.Answer.{good}
use Rattle.semantics.specs.Check.{read_sheet, check}
use Rattle.semantics.specs.Walk.{Below, children_at, fold_left, visit}
use Rattle.semantics.proofs.Walks.{visit_fuel}
use Rattle.semantics.proofs.Members.{mem_here, mem_there, not_in}
use Rattle.records.specs.Access.{records_of}
use Rattle.records.specs.Orders.{Order, Visiting}
use Rattle.records.proofs.Steps.{child_low, order_visit}

pub fold_append : {S : Type 0} (f : S → ℕ → S) (s : S) (xs ys : List ℕ) → fold_left f s (xs ++ ys) ≡ fold_left f (fold_left f s xs) ys
unfolding fold_left
fold_append f s [] ys = refl
fold_append f s (x ∷ xs) ys = fold_append f (f s x) xs ys

pub order_none : (ws : List ℕ) → Order ws []
order_none ws = record { closed = tt; distinct = tt; below = λ x m. not_in x m }

module _ (ws : List ℕ) where
  abbrev E : ℕ
  E = length (records_of ws)

  abbrev ch : ℕ → List ℕ
  ch = children_at (records_of ws)

  pub visiting_none : (P : List ℕ → Type 0) → Visiting ws [] P P
  unfolding fold_left
  visiting_none P done o h = h

  module _ (checked : check prime ws ≡ good (read_sheet ws)) where
    pub order_walk : (roots : List ℕ) → Below E roots → (done : List ℕ) → Order ws done → Order ws (fold_left (visit ch E) done roots)
    unfolding fold_left
    order_walk [] b done o = o
    order_walk (r ∷ roots) b done o =
        order_walk roots (λ x m. b x (mem_there x r roots m)) (visit ch E done r)
        (order_visit ws checked done E r o (b r (mem_here r roots)) (b r (mem_here r roots)))

    -- One list of records after another.
    pub visiting_both : (xs ys : List ℕ) → Below E xs → (P Q R : List ℕ → Type 0) → Visiting ws xs P Q → Visiting ws ys Q R → Visiting ws (xs ++ ys) P R
    visiting_both xs ys b P Q R f g done q h =
        subst R (sym (fold_append (visit ch E) done xs ys)) (g (fold_left (visit ch E) done xs) (order_walk xs b done q) (f done q h))

    -- One record.
    pub visiting_one : (r : ℕ) → r < E → (P Q : List ℕ → Type 0)
        → ((done : List ℕ) → Order ws done → P done → Q (visit ch (suc r) done r)) → Visiting ws (r ∷ []) P Q
    unfolding fold_left
    visiting_one r l P Q f done q h =
        subst Q (visit_fuel ch (child_low ws checked) (suc r) E done r (omega arith) l) (f done q h)
