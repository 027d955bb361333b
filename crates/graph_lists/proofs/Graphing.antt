-- The graph in the output, from the state when all records are added.
use mathlib.Core.Path.{◌≡◌, refl, sym, ap, subst, ◌∙◌}
use mathlib.Core.List.{List, [], ◌∷◌, map, flat_map}
use Prim.Native.Nat.{ℕ, suc, pred, ◌+◌, ◌-◌, ◌^◌, ◌≤◌, ◌<◌}
use native.Mathlib.Omega.{arith}
use lib.ListN.{length, length-map}
use lib.Seq.{sets}
use Rattle.semantics.specs.Arithmetic.{prime}
use Rattle.semantics.specs.Sheet.{Sheet, interaction_words, length_of, place}
use Rattle.semantics.specs.Check.{read_sheet}
use Rattle.semantics.specs.Walk.{Mem, Below, member}
use Rattle.semantics.specs.Graph.{Built, built, graph_roots, graph_of, sorted_once, renamed}
use Rattle.semantics.proofs.Basics.{by_test}
use Rattle.semantics.proofs.Members.{mem_right, map_below}
use Rattle.semantics.proofs.Places.{place_head}
use Rattle.semantics.proofs.Encoding.{sheet_length}
use Rattle.semantics.proofs.Orders.{order_closed, order_roots, order_below, order_distinct, distinct_length}
use Rattle.semantics.proofs.GraphSheets.{constraint_root_lem, graph_roots_lem, sorted_length}
use Rattle.records.specs.Access.{IsSheet, records_of}
use Rattle.records.specs.Named.{references}
use Rattle.records.specs.Orders.{Order}
use Rattle.records.proofs.Steps.{inside, few_records, lows}
use Rattle.records.proofs.Reading.{counts_small}
use Rattle.nodes.specs.Memory.{tabulate, mark, nodes_out, built_of}
use Rattle.nodes.proofs.States as states
use Rattle.nodes.proofs.Marks.{tabulate_length}
use Rattle.slices.specs.Putting.{put, Puts}
use Rattle.graph_lists.specs.Lists.{ToWriteLists, all_added, graph_out, graph_length, flagged, flagged_among, plain_below, marks_of, node_numbers, renamed_all, NodesNamed}
use Rattle.slices.proofs.Puts.{put_length}
use Rattle.graph_lists.proofs.Renaming.{map_same, renamed_are}
use Rattle.graph_lists.proofs.Closing.{plain_again, flagged_are, graph_words, graph_fits}

-- The nodes of the constraints are written behind the nodes and plain again, and the interactions are next.
pub record Behind (ws out : List ℕ) (n : ℕ) (s₁ : List ℕ) (to : ℕ) (s₂ out₁ : List ℕ) (next ints : ℕ) : Type 0 where
  pub to_is : to ≡ place 5 n
  pub plain_is : s₂ ≡ tabulate 0 (length s₁) (plain_below n s₁)
  pub out_is : Puts out to (flagged_among 0 n s₁) out₁ next
  pub ints_are : ints ≡ length (read_sheet ws).interactions

module _ {ws scratch out : List ℕ} {n : ℕ} (checked : IsSheet ws) (f : ToWriteLists ws scratch out n) where
  abbrev s : Sheet
  s = read_sheet ws

  abbrev E : ℕ
  E = length (records_of ws)

  abbrev B : Built
  B = built_of ws (all_added ws)

  abbrev g : Sheet
  g = graph_of prime s

  roots_below : Below E (graph_roots s)
  roots_below = graph_roots_lem prime s (inside ws checked)

  ordered : Order ws (all_added ws)
  ordered = record {
    closed = order_closed (records_of ws) (lows ws checked) (graph_roots s) roots_below;
    distinct = order_distinct (records_of ws) (lows ws checked) (graph_roots s) roots_below;
    below = order_below (records_of ws) (lows ws checked) (graph_roots s) roots_below;
  }

  -- The mark of a record that is named.
  module _ (c : ℕ) (m : Mem c (graph_roots s)) where
    added : Mem c (all_added ws)
    added = order_roots (records_of ws) (lows ws checked) (graph_roots s) roots_below c m

    marked : marks_of scratch c ≡ suc (B.num c)
    marked = states.scratch_num ws (all_added ws) scratch out n f.holds c (roots_below c m) added

    number_is : pred (marks_of scratch c) ≡ B.num c
    number_is = ap pred marked

    root_named : (c < length scratch) × (0 < marks_of scratch c) × (marks_of scratch c ≤ length scratch)
    root_named =
        let l = states.scratch_length ws (all_added ws) scratch out n f.holds in
        (omega (arith, roots_below c m), omega (arith, marked), omega (arith, marked, states.num_small ws checked (all_added ws) ordered c added))

  marks_small : (i : ℕ) → i < length scratch → marks_of scratch i < 65536
  unfolding mark
  marks_small i l =
      subst (λ (k : ℕ). k < 65536)
      (sym (states.scratch_at ws (all_added ws) scratch out n f.holds i (omega (arith, states.scratch_length ws (all_added ws) scratch out n f.holds))))
      (by_test (λ (k : ℕ). k < 65536) (member i (all_added ws))
      (λ e. omega (arith, states.num_small ws checked (all_added ws) ordered i e, few_records ws checked)) (λ e. omega arith))

  interaction_root : (c : ℕ) → Mem c (references s.interactions) → Mem c (graph_roots s)
  unfolding graph_roots
  interaction_root c m = mem_right c s.constraints (references s.interactions) m

  -- What turning the constraints into nodes asks.
  pub constraints_named : NodesNamed s.constraints scratch
  constraints_named = record { small = marks_small; named = λ c m. root_named c (constraint_root_lem s c m) }

  abbrev nums : List ℕ
  nums = map B.num s.constraints

  numbers_are : node_numbers (marks_of scratch) s.constraints ≡ nums
  numbers_are = map_same (λ (x : ℕ). pred (marks_of scratch x)) B.num s.constraints (λ c m. number_is c (constraint_root_lem s c m))

  nodes_count : n ≡ length B.nodes
  nodes_count = f.holds.count_is

  nums_below : Below n nums
  nums_below = map_below n B.num s.constraints (λ c m. omega (arith, nodes_count, states.num_below ws checked (all_added ws) ordered c (added c (constraint_root_lem s c m))))

  pub nodes_few : n ≤ length scratch
  nodes_few =
      omega (
        arith,
        nodes_count,
        (states.kept ws checked (all_added ws) ordered).few,
        states.scratch_length ws (all_added ws) scratch out n f.holds,
        distinct_length E (all_added ws) ordered.distinct ordered.below,
      )

  pub nodes_small : n ≤ 4096
  nodes_small = omega (arith, nodes_few, states.scratch_length ws (all_added ws) scratch out n f.holds, few_records ws checked)

  pub lists_small : (length s.constraints ≤ 1024) × (length s.interactions ≤ 1024)
  lists_small = let h = counts_small ws checked in (h.1, h.2)

  -- The graph's lists and their length.
  records_are : g.records ≡ B.nodes
  unfolding graph_of built built_of
  records_are = refl

  sorted_are : g.constraints ≡ sorted_once nums
  unfolding graph_of built built_of
  sorted_are = refl

  interactions_are : g.interactions ≡ map (renamed B.num) s.interactions
  unfolding graph_of built built_of
  interactions_are = refl

  fits : place 5 n + length g.constraints + length (flat_map interaction_words g.interactions) ≤ length out
  unfolding length_of
  fits =
      let k : length g.records ≡ n = ap length records_are ∙ sym nodes_count in
      omega (arith, sheet_length g, graph_fits ws checked, f.room, ap (place 5) k)

  -- The constraints are flagged, written and plain again.
  module _ {s₁ : List ℕ} (flags : s₁ ≡ tabulate 0 (length scratch) (flagged (marks_of scratch) (node_numbers (marks_of scratch) s.constraints))) where
    flags_now : s₁ ≡ tabulate 0 (length scratch) (flagged (marks_of scratch) nums)
    flags_now = flags ∙ ap (λ (l : List ℕ). tabulate 0 (length scratch) (flagged (marks_of scratch) l)) numbers_are

    among_are : flagged_among 0 n s₁ ≡ g.constraints
    among_are = ap (flagged_among 0 n) flags_now ∙ flagged_are scratch nums n marks_small nums_below nodes_few ∙ sym sorted_are

    pub room_flagged : (to : ℕ) → to ≡ place 5 n → (n ≤ length s₁) × (n < 4294967296) × (to + length (flagged_among 0 n s₁) ≤ length out)
    room_flagged to et =
        let l : length s₁ ≡ length scratch = ap length flags ∙ tabulate_length 0 (length scratch) _ in
        let k : length (flagged_among 0 n s₁) ≡ length g.constraints = ap length among_are in
        (omega (arith, nodes_few), omega (arith, nodes_small), omega (arith, fits))

    module _ {to : ℕ} {s₂ out₁ : List ℕ} {next ints : ℕ} (w : Behind ws out n s₁ to s₂ out₁ next ints) where
      plain : s₂ ≡ scratch
      plain = w.plain_is ∙ ap (λ (l : List ℕ). tabulate 0 (length l) (plain_below n l)) flags_now ∙ plain_again scratch nums n marks_small nums_below nodes_few

      renamed_now : renamed_all s₂ s.interactions ≡ flat_map interaction_words g.interactions
      renamed_now =
          ap (λ (l : List ℕ). renamed_all l s.interactions) plain
          ∙ renamed_are scratch B.num s.interactions (λ c m. number_is c (interaction_root c m))
          ∙ ap (flat_map interaction_words) (sym interactions_are)

      next_is : next ≡ place 5 n + length g.constraints
      next_is = w.out_is.next_is ∙ λ i. w.to_is i + length (among_are i)

      out₁_is : out₁ ≡ put out (place 5 n) g.constraints
      out₁_is = w.out_is.out_is ∙ λ i. put out (w.to_is i) (among_are i)

      out₁_length : length out₁ ≡ length out
      out₁_length = ap length out₁_is ∙ put_length out (place 5 n) g.constraints (omega (arith, fits))

      pub interactions_named : NodesNamed (references s.interactions) s₂ × (next + length (renamed_all s₂ s.interactions) ≤ length out₁)
      interactions_named =
          let k : length (renamed_all s₂ s.interactions) ≡ length (flat_map interaction_words g.interactions) = ap length renamed_now in (
            subst (NodesNamed (references s.interactions)) (sym plain) (record { small = marks_small; named = λ c m. root_named c (interaction_root c m) }),
            omega (arith, fits, next_is, out₁_length),
          )

      -- The output with its head.
      module _ {out₂ : List ℕ} (o₂ : out₂ ≡ put out₁ next (renamed_all s₂ s.interactions)) where
        pub out₂_length : length out₂ ≡ length out
        out₂_length =
            let k = interactions_named.1 in
            ap length o₂ ∙ put_length out₁ next (renamed_all s₂ s.interactions) k ∙ out₁_length

        pub graph_end : (end : ℕ) → end ≡ next + length (renamed_all s₂ s.interactions) → end ≡ graph_length ws
        unfolding length_of
        graph_end end e =
            let k : length (renamed_all s₂ s.interactions) ≡ length (flat_map interaction_words g.interactions) = ap length renamed_now in
            let kn : n ≡ length g.records = nodes_count ∙ ap length (sym records_are) in
            omega (arith, next_is, sheet_length g, ap (place 5) kn)

        -- What the head asks.
        pub head_asks : (4 ≤ length out₂) × (n < 2 ^ 32) × (next - to < 2 ^ 32) × (ints < 2 ^ 32)
        head_asks = (omega (arith, fits, out₂_length, place_head 5 n), omega (arith, nodes_small), omega (arith, next_is, sorted_few, w.to_is), omega (arith, lists_small.1, w.ints_are))
          where
            sorted_few : length g.constraints ≤ 1024
            sorted_few =
                let k : length nums ≡ length s.constraints = length-map s.constraints B.num in
                omega (arith, ap length sorted_are, sorted_length nums, lists_small.0)

        pub graph_written : sets out₂ 0 (1 ∷ n ∷ (next - to) ∷ ints ∷ []) ≡ graph_out (length out) ws
        graph_written =
            let N : ℕ = length g.records in
            let kn : n ≡ N = nodes_count ∙ ap length (sym records_are) in
            let kc : next - to ≡ length g.constraints = omega (arith, next_is, w.to_is) in
            let ki : ints ≡ length g.interactions = w.ints_are ∙ sym (length-map s.interactions (renamed B.num)) ∙ ap length (sym interactions_are) in
            let kx : next ≡ place 5 N + length g.constraints = next_is ∙ ap (λ (m : ℕ). place 5 m + length g.constraints) kn in
            let ko : out ≡ nodes_out (length out) g.records = f.holds.out_is ∙ ap (nodes_out (length out)) (sym records_are) in
            let I : List ℕ = flat_map interaction_words g.interactions in
            let all : out₂ ≡ put (put (nodes_out (length out) g.records) (place 5 N) g.constraints) (place 5 N + length g.constraints) I =
            o₂ ∙ (λ i. put (out₁_is i) (kx i) (renamed_now i)) ∙ (λ i. put (put (ko i) (place 5 (kn i)) g.constraints) (place 5 N + length g.constraints) I) in
            (λ i. sets (all i) 0 (1 ∷ kn i ∷ kc i ∷ ki i ∷ []))
            ∙ graph_words (length out) g (unfold length_of in (omega (arith, graph_fits ws checked, f.room)))
