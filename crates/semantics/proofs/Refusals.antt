-- The numbers that each call sends.
use mathlib.Core.Path.{refl}
use mathlib.Core.Bool.{cond}
use mathlib.Core.List.{List, [], ◌∷◌, ◌++◌, map}
use Prim.Native.Nat.{ℕ, zero, suc, ◌*◌, ◌-◌, ◌/◌, ◌≤◌}
use native.Mathlib.Omega.{arith}
use lib.Dec.{eqb}
use lib.ListN.{length, drop, length-map}
use borrow.Author.Tests.{eqb-false}
use Rattle.semantics.specs.Answer.{Answer, good, refused, and_then}
use Rattle.semantics.specs.Sheet.{Record, Sheet, record_words, table, row, encode, length_of}
use Rattle.semantics.specs.Check.{check}
use Rattle.semantics.specs.Block.{block_good, block_check, bad_length, read_blocks}
use Rattle.semantics.specs.Packing.{pack_fault, leaf_tests, pack_record, pack, hands_out, unpacked, unpack}
use Rattle.semantics.specs.Walk.{Mem, member, order}
use Rattle.semantics.specs.Expand.{expand_all}
use Rattle.semantics.specs.Graph.{graph_of, max_rotation}
use Rattle.semantics.specs.Group.{Root}
use Rattle.semantics.specs.Call.{Result, outcome, needs, result, on_sheet, expansion_of, expansion}
use Rattle.semantics.specs.Call.{block_check_call, reader_call, writer_call, check_call, builder_call, max_rotation_call, num_constraints_call, conversion_call}
use Rattle.semantics.specs.Call.{pack_call, variable_call, unpack_call, constraint_call, interaction_call}
use Rattle.semantics.specs.Refusals.{Sends, of_sheet, of_expansion, Refusals}
use Rattle.semantics.specs.Lists.{All}
use Rattle.semantics.proofs.Basics.{by_test}
use Rattle.semantics.proofs.Members.{mem_there}
use Rattle.semantics.proofs.Sorting.{all_at}
use Rattle.semantics.proofs.Acceptance.{Sent, Within, words_there, judged_sent, check_sent, then_sent, result_sent, needs_sent, pack_fault_lem, walk_sent, fitted_sent}

-- The number of a call's reply is 0 or that of its refusal.
pub sends : (ns scratch lent : List ℕ) (a : Answer Result) → Within ns a → Sends ns (outcome scratch lent a)
unfolding outcome member
sends ns scratch lent (good r) h = refl
sends ns scratch lent (refused n k) h = mem_there n 0 ns h

-- The steps of each call, as answers.
read_within : (n number : ℕ) (bs : List ℕ) → Within (1 ∷ 15 ∷ 2 ∷ []) (read_blocks n number bs)
unfolding read_blocks member
read_within zero number bs = tt
read_within (suc n) number bs =
    let ih = read_within n (suc number) (drop 512 bs) in
    by_test (Within (1 ∷ 15 ∷ 2 ∷ [])) (block_good (suc number) bs) (λ e. then_sent _ (read_blocks n (suc number) (drop 512 bs)) _ ih (λ ws. tt)) (λ e. refl)

pub reader_within : (bytes : List ℕ) (out : ℕ) → Within (1 ∷ 15 ∷ 2 ∷ [])
    (cond (bad_length (length bytes)) (refused 1 0)
    (needs 15 (127 * (length bytes / 512)) out
    (and_then (read_blocks (length bytes / 512) 0 bytes) (λ ws. result (ws ∷ []) []))))
unfolding member
reader_within bytes out =
    by_test (Within (1 ∷ 15 ∷ 2 ∷ [])) (bad_length (length bytes)) (λ e. refl)
    (λ e. needs_sent _ 15 (127 * (length bytes / 512)) out _ refl
    (then_sent _ (read_blocks (length bytes / 512) 0 bytes) _ (read_within (length bytes / 512) 0 bytes) (λ ws. result_sent _ _ _)))

pub check_within : (p : ℕ) (ws : List ℕ) → Within of_sheet (check p ws)
unfolding member
check_within p ws = check_sent _ (refl, (refl, (refl, (refl, (refl, tt))))) p ws

-- A call on a sheet: its own numbers come behind those of the check.
sheet_within : (ns : List ℕ) (p : ℕ) (ws : List ℕ) (rest : Sheet → Answer Result) → ((s : Sheet) → Within (of_sheet ++ ns) (rest s))
    → Within (of_sheet ++ ns) (on_sheet p ws rest)
unfolding on_sheet member
sheet_within ns p ws rest h = then_sent _ (check p ws) rest (check_sent _ (refl, (refl, (refl, (refl, (refl, tt))))) p ws) h

pub builder_within : (p : ℕ) (ws : List ℕ) (scratch out : ℕ) → Within (of_sheet ++ (14 ∷ 15 ∷ []))
    (on_sheet p ws (λ s. needs 14 (length s.records) scratch (needs 15 (length_of s) out (result (encode (graph_of p s) ∷ []) []))))
unfolding member
builder_within p ws scratch out =
    sheet_within (14 ∷ 15 ∷ []) p ws _
    (λ s. needs_sent _ 14 (length s.records) scratch _ refl (needs_sent _ 15 (length_of s) out _ refl (result_sent _ _ _)))

pub expansion_within : (p : ℕ) (ws : List ℕ) (work pool : ℕ) (lent : List ℕ) (roots : Sheet → List Root) (outputs : Sheet → List (List ℕ)) (numbers : Sheet → List ℕ)
    → Within (of_sheet ++ of_expansion)
    (on_sheet p ws (expansion_of p (work ∷ pool ∷ lent) roots outputs numbers))
unfolding member expansion_of
expansion_within p ws work pool lent roots outputs numbers =
    sheet_within of_expansion p ws _
    (λ s. needs_sent _ 14 4096 work _ refl (needs_sent _ 14 (2 * length s.records) pool _ refl
    (then_sent _ (expand_all p s.records pool (order s.records (map (λ (r : Root). r.node) (roots s)))) _
    (walk_sent _ (refl, (refl, (refl, (refl, tt)))) refl refl refl p s.records pool _)
    (λ used. fitted_sent _ refl (outputs s) lent (numbers s)))))

expansion_sends : (p : ℕ) (ws : List ℕ) (work pool : ℕ) (lent : List ℕ) (roots : Sheet → List Root) (outputs : Sheet → List (List ℕ)) (numbers : Sheet → List ℕ)
    → Sends (of_sheet ++ of_expansion) (expansion p ws (work ∷ pool ∷ lent) (expansion_of p (work ∷ pool ∷ lent) roots outputs numbers))
unfolding expansion
expansion_sends p ws work pool lent roots outputs numbers =
    sends (of_sheet ++ of_expansion) (work ∷ pool ∷ []) lent _ (expansion_within p ws work pool lent roots outputs numbers)

-- A call that hands back numbers of a sheet, and one that writes it.
number_sends : (p : ℕ) (ws : List ℕ) (numbers : Sheet → List ℕ) → Sends of_sheet (outcome [] [] (on_sheet p ws (λ s. result [] (numbers s))))
number_sends p ws numbers = sends of_sheet [] [] _ (sheet_within [] p ws _ (λ s. result_sent _ _ _))

copy_sends : (p : ℕ) (ws : List ℕ) (out : ℕ) (need : Sheet → ℕ) (written : Sheet → List ℕ)
    → Sends (of_sheet ++ (15 ∷ [])) (outcome [] (out ∷ []) (on_sheet p ws (λ s. needs 15 (need s) out (result (written s ∷ []) []))))
unfolding member
copy_sends p ws out need written =
    sends (of_sheet ++ (15 ∷ [])) [] (out ∷ []) _
    (sheet_within (15 ∷ []) p ws _ (λ s. needs_sent _ 15 (need s) out _ refl (result_sent _ _ _)))

abbrev of_packing : List ℕ
of_packing = 5 ∷ 8 ∷ 9 ∷ 10 ∷ 11 ∷ []

record_sent : (P : ℕ → Type 0) → All P (8 ∷ 9 ∷ 10 ∷ 11 ∷ []) → (r : Record) → Sent P (pack_record r)
unfolding pack_record
record_sent P h r = by_test (Sent P) (eqb (pack_fault r) 0) (λ e. tt) (λ e. pack_fault_lem P h r (eqb-false (pack_fault r) 0 e))

-- A kind has at most four uses, so the five words of a record are enough.
row_short : (k : ℕ) → length (row k) ≤ 4
unfolding row table
row_short k =
    all_at (λ (u : List ℕ). length u ≤ 4) table (k - 1) [] (omega arith)
    (omega arith, (omega arith, (omega arith, (omega arith, (omega arith, (omega arith, (omega arith, (omega arith, (omega arith, tt)))))))))

pub tests_short : (r : Record) → length (leaf_tests (record_words r)) ≤ length (record_words r)
unfolding leaf_tests record_words
tests_short r = simp length-map (omega (arith, row_short r.kind))

pack_within : (r : Record) → Within of_packing (pack r)
unfolding pack member
pack_within r =
    then_sent (λ (n : ℕ). Mem n of_packing) _ pack_record
    (judged_sent (λ (n : ℕ). Mem n of_packing) _ r (words_there (λ (n : ℕ). Mem n of_packing) 5 refl (leaf_tests (record_words r)) 0 (record_words r) (tests_short r)))
    (record_sent (λ (n : ℕ). Mem n of_packing) (refl, (refl, (refl, (refl, tt)))))

pub refusals : (p : ℕ) → Refusals p
unfolding member
refusals p = record {
  block_check = λ bytes number. unfold block_check_call block_check in
      (sends (1 ∷ []) [] [] _ (then_sent _ _ _ (by_test (Within (1 ∷ [])) (eqb (length bytes) 512) (λ e. tt) (λ e. refl)) (λ yes'. result_sent _ _ _)));
  reader = λ bytes out. unfold reader_call in (sends (1 ∷ 15 ∷ 2 ∷ []) [] (out ∷ []) _ (reader_within bytes out));
  writer = λ ws out. unfold writer_call in (copy_sends p ws out _ _);
  check = λ ws. unfold check_call in (number_sends p ws _);
  builder = λ ws scratch out. unfold builder_call in (sends (of_sheet ++ (14 ∷ 15 ∷ [])) (scratch ∷ []) (out ∷ []) _ (builder_within p ws scratch out));
  max_rotation = λ ws. unfold max_rotation_call in (number_sends p ws _);
  num_constraints = λ ws. unfold num_constraints_call in (number_sends p ws _);
  conversion = λ ws out. unfold conversion_call in (copy_sends p ws out _ _);
  pack = λ r. unfold pack_call in (sends of_packing [] [] _ (then_sent _ (pack r) _ (pack_within r) (λ n. result_sent _ _ _)));
  variable = λ r. unfold variable_call in
      (sends (8 ∷ 9 ∷ 10 ∷ 11 ∷ []) [] [] _ (then_sent _ (pack_record r) _ (record_sent _ (refl, (refl, (refl, (refl, tt)))) r) (λ n. result_sent _ _ _)));
  unpack = λ n. unfold unpack_call unpack in
      (sends (5 ∷ []) [] [] _ (then_sent _ _ _ (by_test (Within (5 ∷ [])) (hands_out (pack (unpacked n)) n) (λ e. tt) (λ e. refl)) (λ r. result_sent _ _ _)));
  constraints = λ ws work pool h v t. unfold constraint_call in (expansion_sends p ws work pool _ _ _ _);
  interactions = λ ws work pool h v t h' v' t'. unfold interaction_call in (expansion_sends p ws work pool _ _ _ _);
}
