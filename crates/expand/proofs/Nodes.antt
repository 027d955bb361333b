-- What a record's node says of its kind: a leaf's is 4 at the most, a constant's 5; only a leaf's packing may be refused.
use mathlib.Core.Path.{◌≡◌, refl, sym, ap, ◌∙◌}
use mathlib.Core.Bool.{Bool, true, false}
use Prim.Native.Nat.{ℕ, zero, suc, ◌≤◌}
use native.Mathlib.Omega.{arith}
use lib.Dec.{leb}
use borrow.Author.Tests.{leb-true, leb-false, ne_eqb}
use Rattle.semantics.specs.Sheet.{Record}
use Rattle.semantics.specs.Packing.{pack_fault}
use Rattle.semantics.specs.Value.{Leaf, Node, leaf, const, add, sub, neg, mul, node_of}

-- A node's kind: 0 for a leaf's.
abbrev pub number : Node → ℕ
number (leaf x) = 0
number (const k) = 5
number (add x y) = 6
number (sub x y) = 7
number (neg x) = 8
number (mul x y) = 9

abbrev value : Node → ℕ
value (leaf x) = 0
value (const k) = k
value (add x y) = 0
value (sub x y) = 0
value (neg x) = 0
value (mul x y) = 0

module _ (r : Record) where
  number_is : (k : ℕ) → r.kind ≡ k → 5 ≤ k → k ≤ 9 → number (node_of r) ≡ k
  unfolding node_of
  number_is k e l h = go k e l h
    where
      go : (k : ℕ) → r.kind ≡ k → 5 ≤ k → k ≤ 9 → number (node_of r) ≡ k
      go zero e l h = absurd (omega arith)
      go (suc zero) e l h = absurd (omega arith)
      go (suc (suc zero)) e l h = absurd (omega arith)
      go (suc (suc (suc zero))) e l h = absurd (omega arith)
      go (suc (suc (suc (suc zero)))) e l h = absurd (omega arith)
      go (suc (suc (suc (suc (suc zero))))) e l h = rw e
      go (suc (suc (suc (suc (suc (suc zero)))))) e l h = rw e
      go (suc (suc (suc (suc (suc (suc (suc zero))))))) e l h = rw e
      go (suc (suc (suc (suc (suc (suc (suc (suc zero)))))))) e l h = rw e
      go (suc (suc (suc (suc (suc (suc (suc (suc (suc zero))))))))) e l h = rw e
      go (suc (suc (suc (suc (suc (suc (suc (suc (suc (suc k)))))))))) e l h = absurd (omega arith)

  leaf_number : r.kind ≤ 4 → number (node_of r) ≡ 0
  unfolding node_of
  leaf_number h =
      rw (ne_eqb r.kind 5 (omega arith), ne_eqb r.kind 6 (omega arith), ne_eqb r.kind 7 (omega arith), ne_eqb r.kind 8 (omega arith), ne_eqb r.kind 9 (omega arith))

  constant_value : r.kind ≡ 5 → value (node_of r) ≡ r.a
  unfolding node_of
  constant_value e = rw e

  pub packs_none : (number (node_of r) ≡ 0 → ⊥) → pack_fault r ≡ 0
  unfolding pack_fault
  packs_none n = rw (ne_eqb r.kind 1 (λ e. n (leaf_number (omega arith))))

  module _ (limit : r.kind ≤ 9) where
    kind_of : (5 ≤ number (node_of r) → r.kind ≡ number (node_of r)) × (number (node_of r) ≡ 0 → r.kind ≤ 4)
    kind_of = go (leb r.kind 4) refl
      where
        go : (t : Bool) → leb r.kind 4 ≡ t → (5 ≤ number (node_of r) → r.kind ≡ number (node_of r)) × (number (node_of r) ≡ 0 → r.kind ≤ 4)
        go true e =
            let h = leb-true r.kind 4 e in
            let n = leaf_number h in
            (λ l. absurd (omega arith), λ z. h)
        go false e =
            let h = leb-false r.kind 4 e in
            let n = number_is r.kind refl (omega arith) limit in
            (λ l. sym n, λ z. absurd (omega arith))

    pub leaf_kind : {x : Leaf} → leaf x ≡ node_of r → r.kind ≤ 4
    leaf_kind e = kind_of.1 (sym (ap number e))

    pub constant_kind : {k : ℕ} → const k ≡ node_of r → (r.kind ≡ 5) × (r.a ≡ k)
    constant_kind {k} e =
        let n = ap number e in
        let five : r.kind ≡ 5 = kind_of.0 (omega arith) ∙ sym n in
        (five, sym (constant_value five) ∙ sym (ap value e))
