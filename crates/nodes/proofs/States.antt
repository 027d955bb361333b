-- The state when some records are added: the nodes that there are, and the marks of records.
use mathlib.Core.Path.{◌≡◌, sym, ap, ◌∙◌}
use mathlib.Core.Bool.{true, false}
use mathlib.Core.List.{List, ◌∷◌}
use Prim.Native.Nat.{ℕ, suc, ◌<◌}
use native.Mathlib.Omega.{arith}
use lib.Dec.{lit<}
use lib.ListN.{length, get_or}
use Rattle.semantics.specs.Arithmetic.{prime}
use Rattle.semantics.specs.Answer.{good}
use Rattle.semantics.specs.Check.{read_sheet, check}
use Rattle.semantics.specs.Walk.{Mem, member}
use Rattle.semantics.proofs.Members.{cons_below}
use Rattle.semantics.proofs.Orders.{distinct_length}
use Rattle.semantics.proofs.Graphs.{Done, Good, build_good}
use Rattle.records.specs.Access.{records_of}
use Rattle.records.specs.Orders.{Order}
use Rattle.records.proofs.Steps.{inside}
use Rattle.nodes.specs.Memory.{mark, built_of, GraphHolds}
use Rattle.nodes.proofs.Marks.{tabulate_length, tabulate_from, mark_new, mark_old, mark_is}

module _ (ws : List ℕ) (checked : check prime ws ≡ good (read_sheet ws)) where
  -- The builder's state over an order: which values are assigned does not matter.
  pub kept : (done : List ℕ) → Order ws done
      → Good prime (lit< tt) (λ x. 0) (λ x. omega arith) (records_of ws) (inside ws checked).records (built_of ws done) done
  unfolding built_of
  kept done o = build_good prime (lit< tt) (λ x. 0) (λ x. omega arith) (records_of ws) (inside ws checked).records done o.closed o.below

  pub num_below : (done : List ℕ) → Order ws done → (i : ℕ) → Mem i done → (built_of ws done).num i < length (built_of ws done).nodes
  unfolding Done
  num_below done o i m = ((kept done o).done i m).0

  pub num_small : (done : List ℕ) → Order ws done → (i : ℕ) → Mem i done → (built_of ws done).num i < length (records_of ws)
  num_small done o i m = omega (arith, num_below done o i m, (kept done o).few, distinct_length (length (records_of ws)) done o.distinct o.below)

  -- There is room for one more node while a record is missing.
  pub few_nodes : (done : List ℕ) (r : ℕ) → Order ws done → r < length (records_of ws) → member r done ≡ false
      → length (built_of ws done).nodes < length (records_of ws)
  few_nodes done r o l e =
      let d = distinct_length (length (records_of ws)) (r ∷ done) (e, o.distinct) (cons_below (length (records_of ws)) r done l o.below) in
      omega (arith, (kept done o).few)

-- The mark of a record, from scratch.
module _ (ws done scratch out : List ℕ) (n : ℕ) (h : GraphHolds ws done scratch out n) where
  pub scratch_length : length scratch ≡ length (records_of ws)
  scratch_length = ap length h.scratch_is ∙ tabulate_length 0 (length (records_of ws)) (mark done (built_of ws done))

  pub scratch_at : (i : ℕ) → i < length (records_of ws) → get_or scratch i 0 ≡ mark done (built_of ws done) i
  scratch_at i l = ap (λ (s : List ℕ). get_or s i 0) h.scratch_is ∙ tabulate_from (length (records_of ws)) (mark done (built_of ws done)) i 0 l

  pub seen_not : (i : ℕ) → i < length (records_of ws) → get_or scratch i 0 ≡ 0 → member i done ≡ false
  seen_not i l e = mark_new done (built_of ws done) i (sym (scratch_at i l) ∙ e)

  pub seen : (i : ℕ) → i < length (records_of ws) → (get_or scratch i 0 ≡ 0 → ⊥) → member i done ≡ true
  seen i l e = mark_old done (built_of ws done) i (λ q. e (scratch_at i l ∙ q))

  pub scratch_num : (i : ℕ) → i < length (records_of ws) → member i done ≡ true → get_or scratch i 0 ≡ suc ((built_of ws done).num i)
  scratch_num i l e = scratch_at i l ∙ mark_is done (built_of ws done) i e
