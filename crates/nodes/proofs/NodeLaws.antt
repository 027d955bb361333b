-- The nodes in the output, and the search for one.
use mathlib.Core.Path.{◌≡◌, refl, sym, ◌∙◌, ap}
use mathlib.Core.Bool.{Bool, true, false}
use mathlib.Core.List.{List, [], ◌∷◌, ◌++◌, flat_map, append_assoc, append-nil}
use Prim.Native.Nat.{ℕ, zero, suc, ◌+◌, ◌-◌, ◌≤◌, ◌<◌}
use native.Mathlib.Nat.{add-zero}
use native.Mathlib.Omega.{arith}
use lib.Dec.{ltb}
use lib.ListN.{length, get_or, drop, replicate, length-append, length-replicate}
use lib.Seq.{drop-append-add, take_at, sets, sets-eq}
use borrow.Author.Tests.{ltb-true, ltb-false, lt-ltb, le-ltb}
use Rattle.semantics.specs.Sheet.{Record, record_words, place}
use Rattle.semantics.specs.Value.{no_record, record_at}
use Rattle.semantics.specs.Graph.{equal_records, find, intern}
use Rattle.semantics.specs.Call.{zeros, padded}
use Rattle.semantics.proofs.Basics.{cond_true, cond_false}
use Rattle.semantics.proofs.Places.{place_next, place_word, record_wide, records_end}
use Rattle.semantics.proofs.Calls.{drop_zeros}
use Rattle.records.specs.Access.{node_in}
use Rattle.nodes.specs.Memory.{nodes_out}
use Rattle.nodes.specs.Nodes.{NoneBefore, FirstEqual}

-- Where the words of the nodes stand.
four : length (zeros 4) ≡ 4
unfolding zeros
four = refl

module _ (ws : List ℕ) (lent : ℕ) (ns : List Record) (e : ws ≡ nodes_out lent ns) (i : ℕ) (h : i < length ns) where
  node_word : (j : ℕ) → j < 5 → get_or ws (place 5 i + j) 0 ≡ get_or (record_words (record_at ns i)) j 0
  unfolding nodes_out padded record_at
  node_word j l =
      let behind : List ℕ = zeros (lent - length (zeros 4 ++ flat_map record_words ns)) in
      ap (λ (u : List ℕ). get_or u (place 5 i + j) 0) (e ∙ append_assoc (zeros 4) (flat_map record_words ns) behind)
      ∙ place_word record_words 5 record_wide (zeros 4) four ns behind no_record i j h l

  first_word : get_or ws (place 5 i) 0 ≡ get_or (record_words (record_at ns i)) 0 0
  first_word = ap (λ (n : ℕ). get_or ws n 0) (sym (add-zero (place 5 i))) ∙ node_word 0 (omega arith)

  pub node_in_lem : node_in ws i ≡ record_at ns i
  unfolding record_words
  node_in_lem =
      let a = node_word 1 (omega arith) in
      let b = node_word 2 (omega arith) in
      let c = node_word 3 (omega arith) in
      let d = node_word 4 (omega arith) in
      λ t. record { kind = first_word t; a = a t; b = b t; c = c t; d = d t }

-- One more node.
flat_snoc : (ns : List Record) (q : Record) → flat_map record_words (ns ++ (q ∷ [])) ≡ flat_map record_words ns ++ record_words q
unfolding flat_map
flat_snoc [] q = append-nil (record_words q)
flat_snoc (m ∷ ns) q = ap (λ (l : List ℕ). record_words m ++ l) (flat_snoc ns q) ∙ sym (append_assoc (record_words m) (flat_map record_words ns) (record_words q))

-- Words written behind others take the place of zeros.
pad_more : (ws vs : List ℕ) (lent n : ℕ) → length ws ≡ n → n + length vs ≤ lent → sets (padded ws lent) n vs ≡ padded (ws ++ vs) lent
unfolding padded zeros
pad_more ws vs lent n e h =
    let zs : List ℕ = replicate (lent - length ws) 0 in
    let m : lent - length ws - length vs ≡ lent - length (ws ++ vs) = omega (arith, length-append ws vs) in
    let d : drop (n + length vs) (ws ++ zs) ≡ replicate (lent - length (ws ++ vs)) 0 =
    ap (λ (j : ℕ). drop (j + length vs) (ws ++ zs)) (sym e) ∙ drop-append-add ws zs (length vs)
    ∙ drop_zeros (length vs) (lent - length ws) ∙ ap (λ (j : ℕ). replicate j 0) m in
    sets-eq vs (ws ++ zs) n (simp (length-append, length-replicate) (omega arith)) ∙ λ i. (take_at ws zs n e i ++ vs) ++ d i

pub nodes_more : (lent : ℕ) (ns : List Record) (q : Record) → place 5 (length ns + 1) ≤ lent
    → sets (nodes_out lent ns) (place 5 (length ns)) (record_words q) ≡ nodes_out lent (ns ++ (q ∷ []))
unfolding nodes_out
nodes_more lent ns q h =
    let ws : List ℕ = zeros 4 ++ flat_map record_words ns in
    pad_more ws (record_words q) lent (place 5 (length ns))
    (length-append (zeros 4) (flat_map record_words ns) ∙ omega (arith, four, records_end ns)) (omega (arith, record_wide q, place_next 5 (length ns)))
    ∙ ap (λ (l : List ℕ). padded l lent) (append_assoc (zeros 4) (flat_map record_words ns) (record_words q) ∙ ap (λ (l : List ℕ). zeros 4 ++ l) (sym (flat_snoc ns q)))

-- The first equal node is what `find` says.
find_is : (q : Record) (ns : List Record) (x : ℕ) → x ≤ length ns → ((i : ℕ) → i < x → equal_records q (record_at ns i) ≡ false)
    → (x < length ns → equal_records q (record_at ns x) ≡ true) → x ≡ find q ns
unfolding find record_at
find_is q [] x h f g = omega arith
find_is q (m ∷ ns) zero h f g = sym (cond_true (equal_records q m) 0 (suc (find q ns)) (g (omega arith)))
find_is q (m ∷ ns) (suc x) h f g =
    ap suc (find_is q ns x (omega arith) (λ i l. f (suc i) (omega arith)) (λ l. g (omega arith)))
    ∙ sym (cond_false (equal_records q m) 0 (suc (find q ns)) (f 0 (omega arith)))

module _ (ws : List ℕ) (ns : List Record) (e : ws ≡ nodes_out (length ws) ns) (n : ℕ) (z : n ≡ length ns) (from : ℕ) (q : Record) (none : NoneBefore from q ns)
    (x : ℕ) (f : FirstEqual ws n from q x) where
  found_is : x ≡ find q ns
  found_is =
      find_is q ns x (omega (arith, f.inside)) (λ i h. go i h (ltb i from) refl)
      (λ h. ap (equal_records q) (sym (node_in_lem ws (length ws) ns e x h)) ∙ f.found (omega arith))
    where
      go : (i : ℕ) → i < x → (t : Bool) → ltb i from ≡ t → equal_records q (record_at ns i) ≡ false
      go i h true t = none i (ltb-true _ _ t)
      go i h false t =
          ap (equal_records q) (sym (node_in_lem ws (length ws) ns e i (omega (arith, f.inside)))) ∙ f.skipped i (ltb-false _ _ t) h

  -- It is there, and nothing changes.
  pub is_there : x < n → (x ≡ find q ns) × (ws ≡ nodes_out (length ws) (intern q ns)) × (n ≡ length (intern q ns))
  unfolding intern
  is_there h =
      let same : ns ≡ intern q ns = sym (cond_true (ltb (find q ns) (length ns)) ns (ns ++ (q ∷ [])) (lt-ltb (find q ns) (length ns) (omega (arith, found_is)))) in
      (found_is, e ∙ ap (nodes_out (length ws)) same, z ∙ ap length same)

  -- It is not, and is written behind the others.
  pub is_new : n ≤ x → place 5 (n + 1) ≤ length ws → (ws' : List ℕ) → ws' ≡ sets ws (place 5 n) (record_words q)
      → (n ≡ find q ns) × (ws' ≡ nodes_out (length ws) (intern q ns)) × (n + 1 ≡ length (intern q ns))
  unfolding intern
  is_new h room ws' w =
      let more : ns ++ (q ∷ []) ≡ intern q ns = sym (cond_false (ltb (find q ns) (length ns)) ns (ns ++ (q ∷ [])) (le-ltb (find q ns) (length ns) (omega (arith, found_is)))) in (
        omega (arith, found_is, f.inside),
        w ∙ (λ i. sets (e i) (place 5 (z i)) (record_words q))
            ∙ nodes_more (length ws) ns q (omega (arith, ap (λ (k : ℕ). place 5 (k + 1)) z)) ∙ ap (nodes_out (length ws)) more,
        ap (λ (k : ℕ). k + 1) z ∙ sym (length-append ns (q ∷ [])) ∙ ap length more,
      )
