-- A record's children, as its words show them, and the first i of them.
use mathlib.Core.Path.{◌≡◌, sym, ap, subst, ◌∙◌}
use mathlib.Core.List.{List, [], ◌∷◌}
use Prim.Native.Nat.{ℕ, zero, suc, ◌+◌, ◌≤◌, ◌<◌}
use native.Mathlib.Omega.{arith}
use lib.ListN.{length, get_or, take}
use lib.Seq.{take_all}
use Rattle.std.specs.Prelude.{Some, None, slice_get}
use Rattle.std.proofs.lemmas.Option.{slice_get_within, get_or_from_slice_get}
use Rattle.semantics.specs.Arithmetic.{prime}
use Rattle.semantics.specs.Answer.{good}
use Rattle.semantics.specs.Check.{read_sheet, check}
use Rattle.semantics.specs.Value.{Node, leaf, const, add, sub, neg, mul, node_of}
use Rattle.semantics.specs.Walk.{Mem, children, children_at}
use Rattle.semantics.proofs.Members.{mem_get_or}
use Rattle.records.specs.Access.{node_in, records_of}
use Rattle.records.proofs.Visits.{record_is}

-- A node has at most two.
children_few : (n : Node) → length (children n) ≤ 2
unfolding children
children_few (leaf x) = omega arith
children_few (const k) = omega arith
children_few (add l r) = omega arith
children_few (sub l r) = omega arith
children_few (neg x) = omega arith
children_few (mul l r) = omega arith

past_none : (xs : List ℕ) (i : ℕ) → slice_get xs i ≡ None → length xs ≤ i
past_none [] i e = omega arith
past_none (x ∷ xs) zero e = cc
past_none (x ∷ xs) (suc i) e = omega (arith, past_none xs i e)

module _ (ws : List ℕ) (checked : check prime ws ≡ good (read_sheet ws)) (r : ℕ) (l : r < length (records_of ws)) where
  abbrev ch : List ℕ
  ch = children_at (records_of ws) r

  children_read : children (node_of (node_in ws r)) ≡ children_at (records_of ws) r
  unfolding children_at
  children_read = ap (λ m. children (node_of m)) (record_is ws checked r l)

  -- All of them.
  pub first_all : (i : ℕ) → 2 ≤ i → take i (children_at (records_of ws) r) ≡ children_at (records_of ws) r
  first_all i h =
      take_all i ch (omega (arith, subst (λ (xs : List ℕ). length xs ≤ 2) children_read (children_few (node_of (node_in ws r)))))

  -- The i-th one, where there is one.
  module _ (i : ℕ) where
    module _ {c : ℕ} (e : Some c ≡ slice_get (children (node_of (node_in ws r))) i) where
      pub child_at : (i < length (children_at (records_of ws) r)) × (get_or (children_at (records_of ws) r) i 0 ≡ c)
      child_at =
          let at : slice_get ch i ≡ Some c = ap (λ (xs : List ℕ). slice_get xs i) (sym children_read) ∙ sym e in
          (slice_get_within ch i c at, get_or_from_slice_get ch i c 0 at)

      pub child_in : Mem c (children_at (records_of ws) r)
      child_in = subst (λ (x : ℕ). Mem x ch) child_at.1 (mem_get_or ch i child_at.0)

    pub first_same : None ≡ slice_get (children (node_of (node_in ws r))) i → take (i + 1) (children_at (records_of ws) r) ≡ take i (children_at (records_of ws) r)
    first_same e =
        let past = past_none ch i (ap (λ (xs : List ℕ). slice_get xs i) (sym children_read) ∙ sym e) in
        take_all (i + 1) ch (omega arith) ∙ sym (take_all i ch past)
