-- The words of the finished graph.
use mathlib.Core.Path.{◌≡◌, refl, sym, ap, ◌∙◌}
use mathlib.Core.Bool.{Bool, true, false, cond}
use mathlib.Core.List.{List, [], ◌∷◌, ◌++◌, flat_map, append_assoc}
use Prim.Native.Nat.{ℕ, zero, suc, ◌+◌, ◌≤◌, ◌<◌}
use native.Mathlib.Omega.{arith}
use lib.Dec.{ltb, leb, lit<}
use lib.ListN.{length, length-append}
use lib.Seq.{sets}
use borrow.Author.Tests.{ltb-false, le-leb, lt-leb}
use Rattle.semantics.specs.Arithmetic.{prime}
use Rattle.semantics.specs.Answer.{good}
use Rattle.semantics.specs.Sheet.{Sheet, record_words, interaction_words, head_words, encode, length_of, place}
use Rattle.semantics.specs.Check.{read_sheet, check}
use Rattle.semantics.specs.Walk.{Below, member}
use Rattle.semantics.specs.Graph.{sorted_once, graph_of}
use Rattle.semantics.specs.Call.{zeros, padded}
use Rattle.semantics.proofs.Places.{records_end}
use Rattle.semantics.proofs.Encoding.{sheet_length, check_inside}
use Rattle.semantics.proofs.GraphSheets.{graph_shorter}
use Rattle.nodes.specs.Memory.{tabulate, nodes_out}
use Rattle.nodes.proofs.Marks.{tabulate_length, tabulate_from, tabulate_same}
use Rattle.slices.specs.Putting.{put}
use Rattle.graph_lists.specs.Lists.{flagged, marks_of, plain_word, plain_below, one_if, flagged_among}
use Rattle.graph_lists.proofs.Flags.{ascending, ascending_sorts, table_of}
use Rattle.graph_lists.proofs.Sweeps.{put_padded}

-- Behind the written part, at a place known by an equation.
put_behind : (W xs : List ℕ) (lent k : ℕ) → k ≡ length W → k + length xs ≤ lent → put (padded W lent) k xs ≡ padded (W ++ xs) lent
put_behind W xs lent k e h = ap (λ (j : ℕ). put (padded W lent) j xs) e ∙ put_padded W xs lent (omega arith)

-- The head's four words, written over four zeros.
head_in : (lent n c i : ℕ) (xs : List ℕ)
    → sets (padded (zeros 4 ++ xs) lent) 0 (1 ∷ n ∷ c ∷ i ∷ []) ≡ padded ((1 ∷ n ∷ c ∷ i ∷ []) ++ xs) lent
unfolding padded zeros
head_in lent n c i xs = refl

-- The parts of a graph whose words fit.
room_for : (lent : ℕ) (g : Sheet) → length (encode g) ≤ lent
    → place 5 (length g.records) + length g.constraints + length (flat_map interaction_words g.interactions) ≤ lent
unfolding length_of
room_for lent g h = omega (arith, sheet_length g)

-- The nodes, behind them the constraints and the interactions, and the head: the words of the graph.
pub graph_words : (lent : ℕ) (g : Sheet) → length (encode g) ≤ lent
    → sets (
    put (put (nodes_out lent g.records) (place 5 (length g.records)) g.constraints)
    (place 5 (length g.records) + length g.constraints) (flat_map interaction_words g.interactions)
    ) 0 (1 ∷ length g.records ∷ length g.constraints ∷ length g.interactions ∷ [])
    ≡ padded (encode g) lent
unfolding nodes_out encode head_words
graph_words lent g h =
    ap (λ (u : List ℕ). heads u)
    (ap (λ (u : List ℕ). put u (place 5 (length g.records) + length C) I) (put_behind W C lent (place 5 (length g.records)) start (omega (arith, room_for lent g h)))
    ∙ put_behind (W ++ C) I lent (place 5 (length g.records) + length C) (sym (length-append W C ∙ omega (arith, start))) (omega (arith, room_for lent g h))
    ∙ ap (λ (u : List ℕ). padded u lent) (append_assoc W C I ∙ append_assoc (zeros 4) R (C ++ I)))
    ∙ head_in lent (length g.records) (length C) (length g.interactions) (R ++ (C ++ I))
  where
    R : List ℕ
    R = flat_map record_words g.records

    C : List ℕ
    C = g.constraints

    I : List ℕ
    I = flat_map interaction_words g.interactions

    W : List ℕ
    W = zeros 4 ++ R

    heads : List ℕ → List ℕ
    heads u = sets u 0 (1 ∷ length g.records ∷ length C ∷ length g.interactions ∷ [])

    start : place 5 (length g.records) ≡ length W
    start = sym (length-append (zeros 4) R ∙ unfold zeros in (omega (arith, records_end g.records)))

-- The graph is no longer than its source.
pub graph_fits : (ws : List ℕ) → check prime ws ≡ good (read_sheet ws) → length (encode (graph_of prime (read_sheet ws))) ≤ length_of (read_sheet ws)
unfolding length_of
graph_fits ws h = graph_shorter prime (lit< tt) (read_sheet ws) (check_inside prime ws (read_sheet ws) h)

-- Flags in the table of a list whose entries are small, for numbers below n.
module _ (s₀ nums : List ℕ) (n : ℕ) (small : (i : ℕ) → i < length s₀ → marks_of s₀ i < 65536) (below : Below n nums) (le : n ≤ length s₀) where
  abbrev s₁ : List ℕ
  s₁ = tabulate 0 (length s₀) (flagged (marks_of s₀) nums)

  abbrev f : ℕ → ℕ
  f = marks_of s₀

  -- An entry, its flag and what is under it.
  entry_is : (i : ℕ) → i < length s₀ → marks_of s₁ i ≡ flagged f nums i
  entry_is i l = tabulate_from (length s₀) (flagged f nums) i 0 l

  flag_is : (i : ℕ) → i < length s₀ → leb 65536 (flagged f nums i) ≡ member i nums
  unfolding flagged
  flag_is i l = go (member i nums)
    where
      go : (t : Bool) → leb 65536 (f i + cond t 65536 0) ≡ t
      go true = le-leb 65536 (f i + 65536) (omega arith)
      go false = lt-leb 65536 (f i + 0) (omega (arith, small i l))

  under_is : (i : ℕ) → i < length s₀ → plain_word (flagged f nums i) ≡ f i
  unfolding plain_word flagged
  under_is i l = go (member i nums)
    where
      go : (t : Bool) → plain_word (f i + cond t 65536 0) ≡ f i
      go true = rw (le-leb 65536 (f i + 65536) (omega arith)) (omega arith)
      go false = rw (lt-leb 65536 (f i + 0) (omega (arith, small i l))) (omega arith)

  -- No flag from n on.
  no_flag : (i : ℕ) → n ≤ i → flagged f nums i ≡ f i
  unfolding flagged
  no_flag i h = go (member i nums) refl
    where
      go : (t : Bool) → member i nums ≡ t → f i + cond t 65536 0 ≡ f i
      go true e = absurd (omega (arith, below i e))
      go false e = omega arith

  -- Without its flags the table is the list again.
  pub plain_again : tabulate 0 (length s₁) (plain_below n s₁) ≡ s₀
  unfolding plain_below
  plain_again =
      ap (λ (m : ℕ). tabulate 0 m (plain_below n s₁)) (tabulate_length 0 (length s₀) (flagged f nums))
      ∙ tabulate_same (length s₀) (plain_below n s₁) f (λ i l. entry i l (ltb i n) refl)
      ∙ sym (table_of s₀)
    where
      entry : (i : ℕ) → i < length s₀ → (t : Bool) → ltb i n ≡ t → plain_below n s₁ i ≡ f i
      entry i l true e = rw e (ap plain_word (entry_is i l) ∙ under_is i l)
      entry i l false e = rw e (entry_is i l ∙ no_flag i (ltb-false i n e))

  -- The flagged are the numbers, sorted once.
  among_is : (k m : ℕ) → k + m ≤ length s₀ → flagged_among k m s₁ ≡ ascending k m nums
  unfolding flagged_among ascending
  among_is k zero h = refl
  among_is k (suc m) h =
      (λ i. one_if ((ap (leb 65536) (entry_is k (omega arith)) ∙ flag_is k (omega arith)) i) k ++ among_is (suc k) m (omega arith) i)
      ∙ go (member k nums)
    where
      go : (t : Bool) → one_if t k ++ ascending (suc k) m nums ≡ cond t (k ∷ ascending (suc k) m nums) (ascending (suc k) m nums)
      go true = refl
      go false = refl

  pub flagged_are : flagged_among 0 n s₁ ≡ sorted_once nums
  flagged_are = among_is 0 n (omega arith) ∙ ascending_sorts n nums below
