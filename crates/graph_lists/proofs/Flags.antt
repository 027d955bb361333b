-- Flagging nodes and taking the flagged in ascending order sorts node numbers and drops repeats.
use mathlib.Core.Path.{◌≡◌, refl, sym, ap, ◌∙◌}
use mathlib.Core.Bool.{Bool, true, false, cond}
use mathlib.Core.List.{List, [], ◌∷◌, ◌++◌, map-append}
use Prim.Native.Nat.{ℕ, zero, suc, pred, ◌+◌, ◌%◌, ◌≤◌, ◌<◌}
use native.Mathlib.Omega.{arith}
use lib.Dec.{eqb}
use lib.ListN.{length, get_or, set, take}
use lib.Seq.{ext_get_or, set-get_or}
use borrow.Author.Tests.{eqb-true, eqb-false, ne_eqb, lt-ltb, le-ltb, le-leb, lt-leb}
use Rattle.semantics.specs.Walk.{Below, member}
use Rattle.semantics.specs.Graph.{set_num, insert_once, sorted_once}
use Rattle.semantics.proofs.Members.{mem_here, mem_there, mem_get_or}
use Rattle.std.proofs.lemmas.List.{take_more}
use Rattle.nodes.specs.Memory.{tabulate}
use Rattle.nodes.proofs.Marks.{tabulate_length, tabulate_from, tabulate_same, tabulate_set}
use Rattle.graph_lists.specs.Lists.{flag_word, flagged, node_numbers, marks_of, NodesNamed}

-- A word's flag is set where it has none.
pub flag_new : (w : ℕ) → w < 65536 → flag_word w ≡ w + 65536
unfolding flag_word
flag_new w h = rw (lt-leb 65536 w h)

pub flag_kept : (s : List ℕ) (node : ℕ) → 65536 ≤ get_or s node 0 → s ≡ set s node (flag_word (get_or s node 0))
unfolding flag_word
flag_kept s node h = sym (rw (le-leb 65536 (get_or s node 0) h) (set-get_or s node 0))

-- A member of a list with one more.
member_snoc : (i x : ℕ) (xs : List ℕ) (t : Bool) → eqb i x ≡ t → member i (xs ++ (x ∷ [])) ≡ cond (member i xs) true t
unfolding member
member_snoc i x [] true e = rw e
member_snoc i x [] false e = rw e
member_snoc i x (y ∷ xs) t e = go (eqb i y) (member_snoc i x xs t e)
  where
    go : (b : Bool) → member i (xs ++ (x ∷ [])) ≡ cond (member i xs) true t
        → cond b true (member i (xs ++ (x ∷ []))) ≡ cond (cond b true (member i xs)) true t
    go true q = refl
    go false q = q

module _ (n : ℕ) (f : ℕ → ℕ) (small : (i : ℕ) → i < n → f i < 65536) (nums : List ℕ) where
  -- The mark under a flag.
  pub mark_under : (i : ℕ) → i < n → get_or (tabulate 0 n (flagged f nums)) i 0 % 65536 ≡ f i
  unfolding flagged
  mark_under i l = ap (λ (w : ℕ). w % 65536) (tabulate_from n (flagged f nums) i 0 l) ∙ go (member i nums)
    where
      go : (t : Bool) → (f i + cond t 65536 0) % 65536 ≡ f i
      go true = omega (arith, small i l)
      go false = omega (arith, small i l)

  -- One more flag.
  pub flag_more : (k : ℕ) → k < n
      → set (tabulate 0 n (flagged f nums)) k (flag_word (get_or (tabulate 0 n (flagged f nums)) k 0)) ≡ tabulate 0 n (flagged f (nums ++ (k ∷ [])))
  unfolding flagged flag_word set_num
  flag_more k l =
      ap (λ (w : ℕ). set (tabulate 0 n (flagged f nums)) k (flag_word w)) (tabulate_from n (flagged f nums) k 0 l)
      ∙ tabulate_set n (flagged f nums) k (flag_word (flagged f nums k)) l
      ∙ tabulate_same n (set_num k (flag_word (flagged f nums k)) (flagged f nums)) (flagged f (nums ++ (k ∷ []))) (λ i m. entry i m (eqb i k) refl)
    where
      own : (t : Bool) → flag_word (f k + cond t 65536 0) ≡ f k + 65536
      own true = rw (le-leb 65536 (f k + 65536) (omega arith))
      own false = rw (lt-leb 65536 (f k + 0) (omega (arith, small k l))) (omega arith)

      any : (t : Bool) → cond t true true ≡ true
      any true = refl
      any false = refl

      rest : (t : Bool) → cond t true false ≡ t
      rest true = refl
      rest false = refl

      entry : (i : ℕ) → i < n → (t : Bool) → eqb i k ≡ t → set_num k (flag_word (flagged f nums k)) (flagged f nums) i ≡ flagged f (nums ++ (k ∷ [])) i
      entry i m true e =
          cond_is (eqb i k) true e
          ∙ own (member k nums)
          ∙ sym (ap (λ (b : Bool). f i + cond b 65536 0) (member_snoc i k nums true e ∙ any (member i nums)) ∙ ap (λ (j : ℕ). f j + 65536) (eqb-true i k e))
        where
          cond_is : (b c : Bool) → b ≡ c → cond b (flag_word (flagged f nums k)) (flagged f nums i) ≡ cond c (flag_word (flagged f nums k)) (flagged f nums i)
          cond_is b c q = ap (λ (d : Bool). cond d (flag_word (flagged f nums k)) (flagged f nums i)) q
      entry i m false e =
          ap (λ (d : Bool). cond d (flag_word (flagged f nums k)) (flagged f nums i)) e
          ∙ sym (ap (λ (b : Bool). f i + cond b 65536 0) (member_snoc i k nums false e ∙ rest (member i nums)))

-- The members of a list among k, k + 1, .., n of them.
unfoldable pub ascending : (k n : ℕ) → List ℕ → List ℕ
ascending k zero nums = []
ascending k (suc n) nums = cond (member k nums) (k ∷ ascending (suc k) n nums) (ascending (suc k) n nums)

-- The numbers from k on that are members ascend, and one more member is put in its place.
ascending_low : (k n : ℕ) (nums : List ℕ) (x : ℕ) → x < k → insert_once x (ascending k n nums) ≡ x ∷ ascending k n nums
unfolding ascending
ascending_low k zero nums x h = unfold insert_once in refl
ascending_low k (suc n) nums x h = go (member k nums) (ascending_low (suc k) n nums x (omega arith))
  where
    go : (t : Bool) → insert_once x (ascending (suc k) n nums) ≡ x ∷ ascending (suc k) n nums
        → insert_once x (cond t (k ∷ ascending (suc k) n nums) (ascending (suc k) n nums)) ≡ x ∷ cond t (k ∷ ascending (suc k) n nums) (ascending (suc k) n nums)
    go true ih = unfold insert_once in (rw (lt-ltb x k h))
    go false ih = ih

-- A number below the first makes no difference.
ascending_skip : (k n : ℕ) (nums : List ℕ) (x : ℕ) → x < k → ascending k n (x ∷ nums) ≡ ascending k n nums
unfolding ascending member
ascending_skip k zero nums x h = refl
ascending_skip k (suc n) nums x h =
    let ih = ascending_skip (suc k) n nums x (omega arith) in
    rw (ne_eqb k x (omega arith), ih)

pub ascending_insert : (k n : ℕ) (nums : List ℕ) (x : ℕ) → k ≤ x → x < k + n → insert_once x (ascending k n nums) ≡ ascending k n (x ∷ nums)
unfolding ascending member insert_once
ascending_insert k zero nums x l h = absurd (omega arith)
ascending_insert k (suc n) nums x l h = go (eqb k x) refl (member k nums) (λ q. ascending_insert (suc k) n nums x q (omega arith))
  where
    go : (t : Bool) → eqb k x ≡ t → (m : Bool) → (suc k ≤ x → insert_once x (ascending (suc k) n nums) ≡ ascending (suc k) n (x ∷ nums))
        → insert_once x (cond m (k ∷ ascending (suc k) n nums) (ascending (suc k) n nums))
        ≡ cond (cond (eqb k x) true m) (k ∷ ascending (suc k) n (x ∷ nums)) (ascending (suc k) n (x ∷ nums))
    go true e true ih =
        let q : k ≡ x = eqb-true k x e in
        rw (e, ascending_skip (suc k) n nums x (omega arith)) (rw (le-ltb x k (omega arith), le-ltb k x (omega arith)))
    go true e false ih =
        let q : k ≡ x = eqb-true k x e in
        rw (e, ascending_skip (suc k) n nums x (omega arith)) (ascending_low (suc k) n nums x (omega arith) ∙ ap (λ (y : ℕ). y ∷ ascending (suc k) n nums) (sym q))
    go false e true ih =
        let q : k < x = omega (arith, eqb-false k x e) in
        rw (e, le-ltb x k (omega arith), lt-ltb k x q) (ap (λ (r : List ℕ). k ∷ r) (ih q))
    go false e false ih = rw e (ih (omega (arith, eqb-false k x e)))

ascending_none : (k n : ℕ) → ascending k n [] ≡ []
unfolding ascending member
ascending_none k zero = refl
ascending_none k (suc n) = ascending_none (suc k) n

pub ascending_sorts : (n : ℕ) (nums : List ℕ) → Below n nums → ascending 0 n nums ≡ sorted_once nums
unfolding sorted_once
ascending_sorts n [] b = ascending_none 0 n
ascending_sorts n (x ∷ nums) b =
    sym (ascending_insert 0 n nums x (omega arith) (omega (arith, b x (mem_here x nums))))
    ∙ ap (insert_once x) (ascending_sorts n nums (λ y m. b y (mem_there y x nums m)))

-- A list is the table of its entries.
pub table_of : (s : List ℕ) → s ≡ tabulate 0 (length s) (marks_of s)
table_of s = ext_get_or 0 s (tabulate 0 (length s) (marks_of s)) (sym (tabulate_length 0 (length s) (marks_of s))) (λ i l. sym (tabulate_from (length s) (marks_of s) i 0 l))

-- The loop over the names: `j` of their nodes are flagged.
module _ {names s₀ : List ℕ} (h : NodesNamed names s₀) where
  abbrev f : ℕ → ℕ
  f = marks_of s₀

  abbrev pub Flagging : (s : List ℕ) (j : ℕ) → Type 0
  Flagging s j = s ≡ tabulate 0 (length s₀) (flagged f (node_numbers f (take j names)))

  pub flagging_none : Flagging s₀ 0
  unfolding flagged member
  flagging_none = table_of s₀ ∙ tabulate_same (length s₀) f (flagged f []) (λ i l. omega arith)

  module _ {s : List ℕ} {j : ℕ} (e : Flagging s j) (l : j < length names) where
    abbrev x : ℕ
    x = get_or names j 0

    here : (x < length s₀) × (0 < f x) × (f x ≤ length s₀)
    here = h.named x (mem_get_or names j l)

    same_length : length s ≡ length s₀
    same_length = ap length e ∙ tabulate_length 0 (length s₀) (flagged f (node_numbers f (take j names)))

    -- The mark of the next name, and its node.
    next_mark : get_or s x 0 % 65536 ≡ f x
    next_mark = ap (λ (u : List ℕ). get_or u x 0 % 65536) e ∙ mark_under (length s₀) f h.small (node_numbers f (take j names)) x here.0

    next_node : pred (f x) < length s₀
    next_node = omega (arith, here.1, here.2)

    -- What `node_number` asks and hands back of it.
    pub number_asks : (x < length s) × (0 < get_or s x 0 % 65536)
    number_asks = (omega (arith, same_length, here.0), omega (arith, next_mark, here.1))

    module _ {node : ℕ} (k : node ≡ pred (get_or s x 0 % 65536)) where
      number_is : node ≡ pred (f x)
      number_is = k ∙ ap pred next_mark

      pub number_inside : node < length s
      number_inside = omega (arith, number_is, next_node, same_length)

      pub flagging_more : (s' : List ℕ) → s' ≡ set s node (flag_word (get_or s node 0)) → Flagging s' (j + 1)
      flagging_more s' g =
          let nums : List ℕ = node_numbers f (take j names) in
          g ∙ ap (λ (m : ℕ). set s m (flag_word (get_or s m 0))) number_is
          ∙ ap (λ (u : List ℕ). set u (pred (f x)) (flag_word (get_or u (pred (f x)) 0))) e
          ∙ flag_more (length s₀) f h.small nums (pred (f x)) next_node
          ∙ ap (λ (xs : List ℕ). tabulate 0 (length s₀) (flagged f xs)) (sym (map-append (λ (y : ℕ). pred (f y)) (take j names) (x ∷ [])))
          ∙ ap (λ (xs : List ℕ). tabulate 0 (length s₀) (flagged f (node_numbers f xs))) (sym (take_more names j 0 l))
