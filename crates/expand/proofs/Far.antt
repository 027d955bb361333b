-- How far an expansion has come when some records are expanded, one after the other.
use mathlib.Core.Path.{◌≡◌, refl, sym, subst, ◌∙◌}
use mathlib.Core.List.{List, [], ◌++◌, append_assoc}
use Prim.Native.Nat.{ℕ}
use lib.ListN.{length}
use Rattle.semantics.specs.Answer.{and_then}
use Rattle.semantics.specs.Walk.{Below, children_at, fold_left, visit}
use Rattle.semantics.specs.Expand.{expand_all}
use Rattle.semantics.proofs.Members.{not_in, append_below}
use Rattle.answers.specs.declared.Refusal.{Refusal}
use Rattle.std.specs.Prelude.{Result, Ok, Err}
use Rattle.records.specs.Access.{records_of}
use Rattle.records.specs.Orders.{Order, Visiting}
use Rattle.records.proofs.Rooting.{order_walk, visiting_none, visiting_both}
use Rattle.records.proofs.Visited.{Stays, visiting_stopped}
use Rattle.expand.specs.declared.Walk.{Walk}
use Rattle.expand.specs.Walks.{Holds, Answers, Same, ExpandWalking, Walked}

pub same_here : (v : Walk) → Same v v
same_here v = record { sheet = refl; work = refl; pool = refl }

pub same_then : {v w x : Walk} → Same v w → Same w x → Same v x
same_then s t = record { sheet = t.sheet ∙ s.sheet; work = t.work ∙ s.work; pool = t.pool ∙ s.pool }

-- A walk that was refused stays refused, whatever records come.
pub refused_stays : (w : Walk) {u : Result (Unit {0}) Refusal} (q : Refusal) → u ≡ Err q → Stays (Answers w u)
unfolding expand_all and_then
refused_stays w q g = subst (λ (u : Result (Unit {0}) Refusal). Stays (Answers w u)) (sym g) (λ done i e. rw e)

-- What holds when these roots are expanded.
pub record Far (v : Walk) (roots : List ℕ) (w : Walk) : Type 0 where
  pub below : Below (length (records_of v.sheet.words.now)) roots
  pub walked : Walked v roots w (Ok tt)

module _ {v : Walk} (p : ExpandWalking v) where
  abbrev ws : List ℕ
  ws = v.sheet.words.now

  pub far_none : Far v [] v
  far_none = record { below = λ y i. not_in y i; walked = (same_here v, visiting_none ws (Holds v)) }

  module _ {roots : List ℕ} {w : Walk} (h : Far v roots w) where
    unfoldable pub far_walking : ExpandWalking w
    far_walking =
        let done : List ℕ = fold_left (visit (children_at (records_of ws)) (length (records_of ws))) p.done roots in record {
          done = done;
          order = subst (λ (s : List ℕ). Order s done) (sym h.walked.0.sheet) (order_walk ws v.sheet.checked roots h.below p.done p.order);
          holds = h.walked.1 p.done p.order p.holds;
        }

    module _ (more : List ℕ) (x : Walk) (u : Result (Unit {0}) Refusal) (f : Walked w more x u) where
      pub far_both : Walked v (roots ++ more) x u
      far_both = (
        same_then h.walked.0 f.0,
        visiting_both ws v.sheet.checked roots more h.below (Holds v) (Holds w) (Answers x u) h.walked.1
            (subst (λ (s : List ℕ). Visiting s more (Holds w) (Answers x u)) h.walked.0.sheet f.1),
      )

      pub far_more : Below (length (records_of ws)) more → {n : Unit {0}} → u ≡ Ok n → Far v (roots ++ more) x
      far_more b e = record {
        below = append_below (length (records_of ws)) roots more h.below b;
        walked = subst (Walked v (roots ++ more) x) e far_both;
      }

      -- A refusal is the answer for all roots that are left.
      pub far_refused : {q : Refusal} → u ≡ Err q → (rest all : List ℕ) → all ≡ roots ++ (more ++ rest) → Walked v all x u
      far_refused {q} e rest all i =
          let b = far_both in (
            b.0,
            subst (λ (xs : List ℕ). Visiting ws xs (Holds v) (Answers x u)) (sym (i ∙ sym (append_assoc roots more rest)))
                (visiting_stopped ws (Answers x u) (refused_stays x q e) (Holds v) (roots ++ more) rest b.1),
          )
