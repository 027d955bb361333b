-- Taking the flags off in ascending order.
use mathlib.Core.Path.{◌≡◌, refl, sym, ap, subst, ◌∙◌}
use mathlib.Core.Bool.{Bool, true, false, cond}
use mathlib.Core.List.{List, ◌++◌, append_assoc, append-nil}
use Prim.Native.Nat.{ℕ, zero, suc, ◌+◌, ◌-◌, ◌≤◌, ◌<◌}
use native.Mathlib.Omega.{arith}
use native.Mathlib.Nat.{zero-add}
use native.Mathlib.Numerals.{add-one}
use lib.Dec.{eqb, ltb, leb}
use lib.ListN.{length, get_or, set, drop, replicate, length-append, length-replicate, replicate-append-replicate}
use lib.Seq.{take_at, drop_at, drop-append-add, set-get_or}
use borrow.Author.Tests.{eqb-true, eqb-false, ltb-true, ltb-false, lt-ltb, le-ltb, le-leb, lt-leb}
use Rattle.semantics.specs.Graph.{set_num}
use Rattle.semantics.specs.Call.{zeros, padded}
use Rattle.nodes.specs.Memory.{tabulate}
use Rattle.nodes.proofs.Marks.{tabulate_length, tabulate_from, tabulate_same, tabulate_set}
use Rattle.slices.specs.Putting.{put}
use Rattle.graph_lists.specs.Lists.{plain_word, plain_below, one_if, flagged_among, marks_of}
use Rattle.slices.proofs.Puts.{put_none, put_one, put_length, put_behind}
use Rattle.graph_lists.proofs.Flags.{table_of}

-- Behind the written part of a padded slice.
pub put_padded : (W xs : List ℕ) (lent : ℕ) → length W + length xs ≤ lent → put (padded W lent) (length W) xs ≡ padded (W ++ xs) lent
unfolding padded zeros
put_padded W xs lent h =
    (λ i. take_at W (replicate (lent - length W) 0) (length W) refl i ++ (xs ++ skip i))
    ∙ sym (append_assoc W xs (replicate (lent - length (W ++ xs)) 0))
  where
    less : lent - length W ≡ length xs + (lent - length (W ++ xs))
    less = simp length-append (omega arith)

    skip : drop (length W + length xs) (W ++ replicate (lent - length W) 0) ≡ replicate (lent - length (W ++ xs)) 0
    skip =
        drop-append-add W (replicate (lent - length W) 0) (length xs)
        ∙ ap (λ (k : ℕ). drop (length xs) (replicate k 0)) less
        ∙ ap (drop (length xs)) (sym (replicate-append-replicate (length xs) (lent - length (W ++ xs)) 0))
        ∙ drop_at (replicate (length xs) 0) (replicate (lent - length (W ++ xs)) 0) (length xs) (length-replicate (length xs) 0)

-- The flagged among one more.
pub among_more : (k n : ℕ) (s : List ℕ) → flagged_among k (suc n) s ≡ flagged_among k n s ++ one_if (leb 65536 (marks_of s (k + n))) (k + n)
unfolding flagged_among
among_more k zero s = append-nil (one_if (leb 65536 (marks_of s k)) k) ∙ ap (λ (j : ℕ). one_if (leb 65536 (marks_of s j)) j) (omega arith)
among_more k (suc n) s =
    ap (λ (l : List ℕ). one_if (leb 65536 (marks_of s k)) k ++ l) (among_more (suc k) n s ∙ ap (λ (j : ℕ). flagged_among (suc k) n s ++ one_if (leb 65536 (marks_of s j)) j) next)
    ∙ sym (append_assoc (one_if (leb 65536 (marks_of s k)) k) (flagged_among (suc k) n s) (one_if (leb 65536 (marks_of s (k + suc n))) (k + suc n)))
  where
    next : suc k + n ≡ k + suc n
    next = omega arith

-- One more entry without its flag.
plain_next : (s : List ℕ) (node i : ℕ) (t : Bool) → eqb i node ≡ t
    → set_num node (plain_word (marks_of s node)) (plain_below node s) i ≡ plain_below (node + 1) s i
unfolding set_num plain_below
plain_next s node i true e =
    let q : i ≡ node = eqb-true i node e in
    rw (e, lt-ltb i (node + 1) (omega arith)) (ap (λ (j : ℕ). plain_word (marks_of s j)) (sym q))
plain_next s node i false e = rw e (go (ltb i node) refl)
  where
    go : (t : Bool) → ltb i node ≡ t → cond (ltb i node) (plain_word (marks_of s i)) (marks_of s i) ≡ cond (ltb i (node + 1)) (plain_word (marks_of s i)) (marks_of s i)
    go true q = rw (q, lt-ltb i (node + 1) (omega (arith, ltb-true i node q)))
    go false q = rw (q, le-ltb i (node + 1) (omega (arith, ltb-false i node q, eqb-false i node e)))

-- The loop: `node` entries are done.
pub record Swept (s₀ out₀ : List ℕ) (at nodes : ℕ) (s out : List ℕ) (next node : ℕ) : Type 0 where
  pub node_le : node ≤ nodes
  pub scratch_is : s ≡ tabulate 0 (length s₀) (plain_below node s₀)
  pub out_is : out ≡ put out₀ at (flagged_among 0 node s₀)
  pub next_is : next ≡ at + length (flagged_among 0 node s₀)

-- What is written so far is a part of all.
among_le : (s₀ : List ℕ) (n m k : ℕ) → n ≤ m → length (flagged_among k n s₀) ≤ length (flagged_among k m s₀)
unfolding flagged_among
among_le s₀ zero m k h = omega arith
among_le s₀ (suc n) zero k h = absurd (omega arith)
among_le s₀ (suc n) (suc m) k h =
    let ih = among_le s₀ n m (suc k) (omega arith) in
    simp length-append (omega arith)

pub swept_none : (s₀ out₀ : List ℕ) (at nodes : ℕ) → Swept s₀ out₀ at nodes s₀ out₀ at 0
unfolding flagged_among
swept_none s₀ out₀ at nodes = record {
  node_le = omega arith;
  scratch_is = table_of s₀ ∙ tabulate_same (length s₀) (marks_of s₀) (plain_below 0 s₀) (λ i l. unfold plain_below in (sym (rw (le-ltb i 0 (omega arith)))));
  out_is = sym (put_none out₀ at);
  next_is = omega arith;
}

module _ {s₀ out₀ : List ℕ} {at nodes : ℕ} {s out : List ℕ} {next node : ℕ} (h : Swept s₀ out₀ at nodes s out next node)
    (fits : nodes ≤ length s₀) (room : at + length (flagged_among 0 nodes s₀) ≤ length out₀) where
  pub swept_lengths : (length s ≡ length s₀) × (length out ≡ length out₀)
  swept_lengths = (
    ap length h.scratch_is ∙ tabulate_length 0 (length s₀) (plain_below node s₀),
    ap length h.out_is ∙ put_length out₀ at (flagged_among 0 node s₀) (omega (arith, among_le s₀ node nodes 0 h.node_le)),
  )

  module _ (l : node < nodes) where
    swept_room : at + length (flagged_among 0 node s₀) + length (one_if (leb 65536 (marks_of s₀ node)) node) ≤ length out₀
    swept_room =
        let e = ap length (among_more 0 node s₀) ∙ length-append (flagged_among 0 node s₀) (one_if (leb 65536 (marks_of s₀ (0 + node))) (0 + node)) in
        let z : length (one_if (leb 65536 (marks_of s₀ (0 + node))) (0 + node)) ≡ length (one_if (leb 65536 (marks_of s₀ node)) node) =
        ap (λ (j : ℕ). length (one_if (leb 65536 (marks_of s₀ j)) j)) (zero-add node) in
        omega (arith, among_le s₀ (suc node) nodes 0 (omega arith))

    -- The entry at `node` is as it was.
    swept_word : get_or s node 0 ≡ marks_of s₀ node
    unfolding plain_below
    swept_word =
        ap (λ (u : List ℕ). get_or u node 0) h.scratch_is
        ∙ tabulate_from (length s₀) (plain_below node s₀) node 0 (omega arith)
        ∙ rw (le-ltb node node (omega arith))

    swept_more : (b : Bool) → b ≡ leb 65536 (get_or s node 0) → (s' out' : List ℕ) (next' : ℕ)
        → s' ≡ set s node (plain_word (get_or s node 0)) → out' ≡ put out next (one_if b node) → next' ≡ next + length (one_if b node)
        → Swept s₀ out₀ at nodes s' out' next' (node + 1)
    swept_more b e s' out' next' q o n =
        let w : b ≡ leb 65536 (marks_of s₀ node) = e ∙ ap (leb 65536) swept_word in
        let old : List ℕ = flagged_among 0 node s₀ in
        let new : old ++ one_if b node ≡ flagged_among 0 (node + 1) s₀ =
        ap (λ (c : Bool). old ++ one_if c node) w ∙ ap (λ (j : ℕ). old ++ one_if (leb 65536 (marks_of s₀ j)) j) (sym (zero-add node))
        ∙ sym (among_more 0 node s₀) ∙ ap (λ (j : ℕ). flagged_among 0 j s₀) (sym (add-one node)) in
        let r : at + length old + length (one_if b node) ≤ length out₀ =
        subst (λ (c : Bool). at + length old + length (one_if c node) ≤ length out₀) (sym w) swept_room in
        record {
          node_le = omega arith;
          scratch_is = q ∙ ap (λ (v : ℕ). set s node (plain_word v)) swept_word ∙ ap (λ (u : List ℕ). set u node (plain_word (marks_of s₀ node))) h.scratch_is
              ∙ tabulate_set (length s₀) (plain_below node s₀) node (plain_word (marks_of s₀ node)) (omega arith)
              ∙ tabulate_same (length s₀) (set_num node (plain_word (marks_of s₀ node)) (plain_below node s₀)) (plain_below (node + 1) s₀) (λ i m. plain_next s₀ node i (eqb i node) refl);
          out_is = o ∙ put_behind out₀ out at old h.out_is next h.next_is (one_if b node) r ∙ ap (put out₀ at) new;
          next_is = n ∙ ap (λ (k : ℕ). k + length (one_if b node)) h.next_is ∙ sum old (one_if b node) ∙ ap (λ (u : List ℕ). at + length u) new;
        }
      where
        sum : (xs ys : List ℕ) → at + length xs + length ys ≡ at + length (xs ++ ys)
        sum xs ys = simp length-append (omega arith)

    -- It is flagged: it is written, and plain again.
    module _ (g : 65536 ≤ get_or s node 0) where
      pub swept_inside : next < length out
      swept_inside =
          let w : leb 65536 (marks_of s₀ node) ≡ true = ap (leb 65536) (sym swept_word) ∙ le-leb 65536 (get_or s node 0) g in
          omega (arith, h.next_is, swept_lengths.1, ap (λ (c : Bool). length (one_if c node)) w, swept_room)

      pub swept_taken : (s' out' : List ℕ) (next' : ℕ) → s' ≡ set s node (get_or s node 0 - 65536) → out' ≡ set out next node → next' ≡ next + 1
          → Swept s₀ out₀ at nodes s' out' next' (node + 1)
      unfolding plain_word
      swept_taken s' out' next' q o n =
          let t = le-leb 65536 (get_or s node 0) g in
          swept_more true (sym t) s' out' next'
          (q ∙ ap (λ (b : Bool). set s node (cond b (get_or s node 0 - 65536) (get_or s node 0))) (sym t))
          (o ∙ put_one out next node swept_inside) n

    -- It is not: nothing changes.
    pub swept_passed : get_or s node 0 < 65536 → (s' out' : List ℕ) (next' : ℕ) → s' ≡ s → out' ≡ out → next' ≡ next
        → Swept s₀ out₀ at nodes s' out' next' (node + 1)
    unfolding plain_word
    swept_passed g s' out' next' q o n =
        let t = lt-leb 65536 (get_or s node 0) g in
        swept_more false (sym t) s' out' next'
        (q ∙ sym (ap (λ (b : Bool). set s node (cond b (get_or s node 0 - 65536) (get_or s node 0))) t ∙ set-get_or s node 0))
        (o ∙ sym (put_none out next)) (omega arith)
