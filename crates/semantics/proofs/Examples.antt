-- The examples that 01 marks P, and the listing of `sheetlist`, by computation over the definitions.
use mathlib.Core.Path.{◌≡◌, refl}
use mathlib.Core.List.{List, [], ◌∷◌, ◌++◌, flat_map}
use Prim.Native.Nat.{ℕ, zero, suc, ◌+◌, ◌-◌}
use lib.ListN.{length, replicate}
use Rattle.slices.specs.Rows.{rows}
use Rattle.semantics.specs.Answer.{and_then}
use Rattle.semantics.specs.Arithmetic.{prime, add_m, sub_m, mul_m, neg_m, signed_of}
use Rattle.semantics.specs.Sheet.{Record, Sheet, record_of, record_words, interaction_words, head_words, encode, length_of, place}
use Rattle.semantics.specs.Sheet.{table, row, fits, record_tests, refers, interaction_tests, head_tests}
use Rattle.semantics.specs.Check.{scan_words, scan_part, scan_parts, scan_spare, scan_sheet, read_record, read_records, read_interaction, read_interactions, read_sheet, judged, check}
use Rattle.semantics.specs.Block.{word_bytes, word_at, words_of, weighted, check_word, block_good, bad_length, read_blocks, block_bytes, first_words, write_blocks, blocks_for}
use Rattle.semantics.specs.Packing.{packed, pack_fault, leaf_tests, pack_record, pack}
use Rattle.semantics.specs.Value.{leaf_of, node_of, record_at, fill}
use Rattle.semantics.specs.Walk.{children, children_at, member, fold_left, visit, order}
use Rattle.semantics.specs.Graph.{if_constants, is_const, if_neg, add_rule, sub_rule, neg_rule, mul_rule, equal_records, find, intern, set_num, node_for, pick}
use Rattle.semantics.specs.Graph.{take_in, add_record, build, graph_roots, built, insert_once, sorted_once, renamed, graph_of, rotation, max_rotation}
use Rattle.semantics.specs.Monomial.{before, before_vars, insert_sorted, sort, above, neg_monomial, mul_monomial, products, keep, plus, insert_monomial}
use Rattle.semantics.specs.Monomial.{combine, working, finished, record_list, lists, list_at}
use Rattle.semantics.specs.Expand.{longer, work_fault, list_size, record_fault, expand_record, expand_all}
use Rattle.semantics.specs.Group.{labelled, constraint_roots, count_roots, field_roots, items_of, items, key, later, push, split, groups, constraint_term}
use Rattle.semantics.specs.Group.{interaction_term, headers, variables, terms, layout, listed_at, listed}
use Rattle.semantics.specs.Call.{Outcome, accepted_with, refused_with, zeros, padded, padded_all, outcome, handed_back, needs, result, pack_call, reader_call}
use Rattle.semantics.specs.Call.{on_sheet, writer_call, check_call, builder_call, max_rotation_call, num_constraints_call}
use Rattle.semantics.specs.Call.{conversion_call, first_short, fitted, family, expansion_of, expansion, constraint_outputs}
use Rattle.semantics.specs.Call.{constraint_call, interaction_outputs, max_fields_len_of, interaction_call}
use Rattle.semantics.specs.Sheetlist.{digits, decimal, hex_digit, hex_digits, integer, signed, line, t_line, u_line, w_line, header_lines, step}
use Rattle.semantics.specs.Sheetlist.{interaction_lines, constraint_lines, graph_lines, sheet_lines, sheetlist}

-- v and w: main, part 0, offset 0, columns 0 and 1.
abbrev v : Record
v = record_of 1 1 0 0 0

abbrev w : Record
w = record_of 1 1 0 0 1

-- The names below open all that they stand on, so that the list of examples names them alone.
packs : Record → Outcome
unfolding pack_call outcome result pack and_then judged scan_words leaf_tests record_words fits row table pack_record packed pack_fault
packs r = pack_call r

-- Number 0 with these numbers, or a refusal; nothing is lent for writing.
answers : List ℕ → Outcome
answers ns = record { reply = accepted_with [] ns; slices = [] }

refuses : (number place : ℕ) → Outcome
refuses number place = record { reply = refused_with number place; slices = [] }

sheet_of : List Record → List ℕ → Sheet
sheet_of rs cs = record { records = rs; constraints = cs; interactions = [] }

-- The builder, lent what it asks for and three words more each.
builds : List Record → List ℕ → Outcome
unfolding sheet_of builder_call outcome on_sheet needs result and_then zeros padded padded_all check judged scan_sheet scan_words scan_part scan_parts
    scan_spare record_tests interaction_tests head_tests refers fits row table place read_sheet read_records read_record read_interactions read_interaction
    encode head_words record_words interaction_words length_of flat_map graph_of built build add_record take_in pick node_for set_num intern find equal_records
    add_rule sub_rule neg_rule mul_rule if_constants is_const if_neg graph_roots insert_once sorted_once renamed order visit fold_left member children children_at
    record_at node_of leaf_of add_m sub_m mul_m neg_m
builds rs cs = builder_call prime (encode (sheet_of rs cs)) ((length rs + 3) ∷ (length_of (sheet_of rs cs) + 3) ∷ [])

-- Nodes and constraints as the words of the sheet that has them.
words : List Record → List ℕ → List ℕ
unfolding builds
words rs cs = encode (sheet_of rs cs)

-- Number 0 and the count of words; scratch of so many words is zero; the words, and so many zeros behind them.
graph : (scratch : ℕ) (ws : List ℕ) (behind : ℕ) → Outcome
graph scratch ws behind = record {
  reply = accepted_with (length ws ∷ []) [];
  slices = replicate scratch 0 ∷ (ws ++ replicate behind 0) ∷ [];
}

-- The constraint call on some words, lent a pool of 60 words and outputs of 8.
expands : List ℕ → Outcome
unfolding builds constraint_call expansion expansion_of expand_all expand_record record_fault work_fault longer list_size pack_fault fitted first_short
    constraint_outputs family layout groups split push sort insert_sorted later key items items_of labelled constraint_roots constraint_term headers
    variables terms list_at lists fill record_list finished working combine insert_monomial keep plus products mul_monomial neg_monomial above before
    before_vars packed
expands ws = constraint_call prime ws (4096 ∷ 60 ∷ 8 ∷ 8 ∷ 8 ∷ [])

-- Number 0 and the three counts; work and pool are zero; headers, variables and terms, with zeros behind them.
expanded : (hs vs ts : List ℕ) → Outcome
expanded hs vs ts = record {
  reply = accepted_with (length hs ∷ length vs ∷ length ts ∷ []) [];
  slices =
      replicate 4096 0 ∷ replicate 60 0 ∷ (hs ++ replicate (8 - length hs) 0) ∷ (vs ++ replicate (8 - length vs) 0) ∷ (ts ++ replicate (8 - length ts) 0) ∷ [];
}

const_zero : Record
const_zero = record_of 5 0 0 0 0

examples :
    -- "v packs to hex 00000001; part 255, offset 15, column 65,535 to fffffff1; public column 3 to 00030003"
    (packs v ≡ answers (1 ∷ []))
    × (packs (record_of 1 1 255 15 65535) ≡ answers (0xfffffff1 ∷ []))
    × (packs (record_of 1 3 0 0 3) ≡ answers (0x00030003 ∷ []))
    -- "offset 16 gives 11, part 256 gives 10, column 65,536 gives 8, a challenge gives 9"
    × (packs (record_of 1 1 0 16 0) ≡ refuses 11 0)
    × (packs (record_of 1 1 256 0 0) ≡ refuses 10 0)
    × (packs (record_of 1 1 0 0 65536) ≡ refuses 8 0)
    × (packs (record_of 1 2 0 0 0) ≡ refuses 9 0)
    -- "v + (−w): four nodes v, w, Neg, Sub"
    × (builds (v ∷ w ∷ record_of 8 1 0 1 0 ∷ record_of 6 0 2 1 0 ∷ []) (3 ∷ [])
    ≡ graph 7 (words (v ∷ w ∷ record_of 8 1 0 1 0 ∷ record_of 7 0 1 1 0 ∷ []) (3 ∷ [])) 3)
    -- "−(−v): three nodes", "0 − v: three nodes"
    × (builds (v ∷ record_of 8 0 0 1 0 ∷ record_of 8 1 0 1 0 ∷ []) (2 ∷ [])
    ≡ graph 6 (words (v ∷ record_of 8 0 0 1 0 ∷ record_of 8 1 0 1 0 ∷ []) (2 ∷ [])) 3)
    × (builds (v ∷ const_zero ∷ record_of 7 1 0 1 0 ∷ []) (2 ∷ [])
    ≡ graph 6 (words (const_zero ∷ v ∷ record_of 7 0 1 1 0 ∷ []) (2 ∷ [])) 3)
    -- "v·0: two nodes, no headers", of the graph and of the sheet itself; "constraint 0: one node, no headers"
    × (builds (v ∷ const_zero ∷ record_of 9 0 1 1 0 ∷ []) (2 ∷ []) ≡ graph 6 (words (v ∷ const_zero ∷ []) (1 ∷ [])) 8)
    × (expands (words (v ∷ const_zero ∷ []) (1 ∷ [])) ≡ expanded [] [] [])
    × (expands (words (v ∷ const_zero ∷ record_of 9 0 1 1 0 ∷ []) (2 ∷ [])) ≡ expanded [] [] [])
    × (builds (const_zero ∷ []) (0 ∷ []) ≡ graph 4 (words (const_zero ∷ []) (0 ∷ [])) 3)
    × (expands (words (const_zero ∷ []) (0 ∷ [])) ≡ expanded [] [] [])
    -- "v + w with degree words 1 and 2, both constraints: four nodes, two indices, two headers of two terms"
    × (builds (v ∷ w ∷ record_of 6 0 1 1 0 ∷ record_of 6 0 1 2 0 ∷ []) (2 ∷ 3 ∷ [])
    ≡ graph 7 (words (v ∷ w ∷ record_of 6 0 1 1 0 ∷ record_of 6 0 1 2 0 ∷ []) (2 ∷ 3 ∷ [])) 3)
    × (expands (words (v ∷ w ∷ record_of 6 0 1 1 0 ∷ record_of 6 0 1 2 0 ∷ []) (2 ∷ 3 ∷ []))
    ≡ expanded (0 ∷ 0 ∷ 1 ∷ 2 ∷ 1 ∷ 2 ∷ 1 ∷ 2 ∷ []) (1 ∷ 65537 ∷ []) (0 ∷ 1 ∷ 1 ∷ 1 ∷ 0 ∷ 1 ∷ 1 ∷ 1 ∷ []))
    -- "the same Add twice: one index": as two records, and as one record named twice
    × (builds (v ∷ w ∷ record_of 6 0 1 1 0 ∷ record_of 6 0 1 1 0 ∷ []) (2 ∷ 3 ∷ [])
    ≡ graph 7 (words (v ∷ w ∷ record_of 6 0 1 1 0 ∷ []) (2 ∷ [])) 9)
    × (builds (v ∷ w ∷ record_of 6 0 1 1 0 ∷ []) (2 ∷ 2 ∷ [])
    ≡ graph 6 (words (v ∷ w ∷ record_of 6 0 1 1 0 ∷ []) (2 ∷ [])) 4)
    -- "(p − 1)·(p − 1): two nodes, the second 1"
    × (builds (record_of 5 2013265920 0 0 0 ∷ record_of 9 0 0 0 0 ∷ []) (1 ∷ [])
    ≡ graph 5 (words (record_of 5 2013265920 0 0 0 ∷ record_of 5 1 0 0 0 ∷ []) (1 ∷ [])) 3)
    -- "(v + w)·(v − w): v·v with 1, w·w with p − 1"
    × (expands (words (v ∷ w ∷ record_of 6 0 1 1 0 ∷ record_of 7 0 1 1 0 ∷ record_of 9 2 3 2 0 ∷ []) (4 ∷ []))
    ≡ expanded (0 ∷ 0 ∷ 2 ∷ 1 ∷ 2 ∷ 1 ∷ 2 ∷ 1 ∷ []) (1 ∷ 1 ∷ 65537 ∷ 65537 ∷ []) (0 ∷ 1 ∷ 0 ∷ 2013265920 ∷ []))
unfolding packs answers refuses sheet_of builds words graph expands expanded const_zero
examples = (refl, refl, refl, refl, refl, refl, refl, refl, refl, refl, refl, refl, refl, refl, refl, refl, refl, refl, refl, refl, refl)

-- The sheet of the listing.
listing_sheet : Sheet
listing_sheet = record {
  records = record_of 1 1 0 1 0 ∷ v ∷ record_of 7 0 1 1 0 ∷ record_of 5 1 0 0 0 ∷ record_of 7 2 3 1 0 ∷ record_of 4 0 0 0 0 ∷ record_of 9 5 4 2 0 ∷ [];
  constraints = 6 ∷ [];
  interactions = record { bus = 7; weight = 1; count = 3; message = 1 ∷ 2 ∷ [] } ∷ [];
}

-- What `sheetlist` prints for it, from the block that the writer makes.
listing : List ℕ
unfolding listing_sheet expands handed_back writer_call write_blocks block_bytes first_words blocks_for word_bytes word_at words_of weighted check_word
    sheetlist reader_call bad_length read_blocks block_good sheet_lines graph_lines constraint_lines interaction_lines step header_lines t_line u_line w_line line
    signed integer signed_of decimal digits hex_digits hex_digit max_rotation_call max_rotation rotation interaction_call interaction_outputs max_fields_len_of
    count_roots field_roots interaction_term listed listed_at rows
listing = sheetlist prime (handed_back 0 (writer_call prime (encode listing_sheet) (512 ∷ [])) 0)

-- The text in 01, line by line.
text : List ℕ
text =
    (100 ∷ 97 ∷ 103 ∷ 32 ∷ 55 ∷ 32 ∷ 49 ∷ 32 ∷ 49 ∷ 10 ∷ [])
    ++ ((109 ∷ 32 ∷ 48 ∷ 48 ∷ 48 ∷ 48 ∷ 48 ∷ 48 ∷ 48 ∷ 97 ∷ 10 ∷ [])
    ++ ((116 ∷ 32 ∷ 48 ∷ 32 ∷ 45 ∷ 49 ∷ 10 ∷ [])
    ++ ((109 ∷ 32 ∷ 48 ∷ 48 ∷ 48 ∷ 48 ∷ 48 ∷ 48 ∷ 48 ∷ 49 ∷ 32 ∷ 48 ∷ 48 ∷ 48 ∷ 48 ∷ 48 ∷ 48 ∷ 48 ∷ 97 ∷ 10 ∷ [])
    ++ ((116 ∷ 32 ∷ 48 ∷ 32 ∷ 45 ∷ 49 ∷ 10 ∷ [])
    ++ ((109 ∷ 32 ∷ 48 ∷ 48 ∷ 48 ∷ 48 ∷ 48 ∷ 48 ∷ 48 ∷ 97 ∷ 32 ∷ 48 ∷ 48 ∷ 48 ∷ 48 ∷ 49 ∷ 48 ∷ 48 ∷ 49 ∷ 10 ∷ [])
    ++ ((116 ∷ 32 ∷ 48 ∷ 32 ∷ 49 ∷ 10 ∷ [])
    ++ ((110 ∷ 10 ∷ [])
    ++ ((117 ∷ 32 ∷ 48 ∷ 32 ∷ 49 ∷ 10 ∷ [])
    ++ ((100 ∷ 32 ∷ 48 ∷ 48 ∷ 48 ∷ 48 ∷ 48 ∷ 48 ∷ 48 ∷ 49 ∷ 10 ∷ [])
    ++ ((119 ∷ 32 ∷ 48 ∷ 32 ∷ 48 ∷ 32 ∷ 49 ∷ 10 ∷ [])
    ++ ((119 ∷ 32 ∷ 48 ∷ 32 ∷ 49 ∷ 32 ∷ 45 ∷ 49 ∷ 10 ∷ [])
    ++ ((100 ∷ 32 ∷ 48 ∷ 48 ∷ 48 ∷ 48 ∷ 49 ∷ 48 ∷ 48 ∷ 49 ∷ 10 ∷ [])
    ++ ((119 ∷ 32 ∷ 48 ∷ 32 ∷ 49 ∷ 32 ∷ 49 ∷ 10 ∷ [])
    ++ (101 ∷ 110 ∷ 100 ∷ 10 ∷ []))))))))))))))

-- "It prints, one item a line"
listing_is : listing ≡ text
unfolding listing text
listing_is = refl

-- Further examples of 01's rules. The records of n variables, columns from k on, and of the sums of the first two, three, .. of them.
many_vars : (k n : ℕ) → List Record
many_vars k zero = []
many_vars k (suc n) = record_of 1 1 0 0 k ∷ many_vars (suc k) n

sums_from : (at next n : ℕ) → List Record
sums_from at next zero = []
sums_from at next (suc n) = record_of 6 at next 1 0 ∷ sums_from (suc at) (suc next) n

-- 17 variables are records 0 to 16, the sum of the first 16 is record 31, and of all record 32.
seventeen : List Record
seventeen = many_vars 0 17 ++ (record_of 6 0 1 1 0 ∷ sums_from 17 2 15)

-- A sheet of v and w whose one interaction has the count `count` and the message `field`.
one_field : (count field : ℕ) → List Record → Sheet
one_field count field rs = record { records = rs; constraints = []; interactions = record { bus = 7; weight = 1; count = count; message = field ∷ [] } ∷ [] }

-- Two interactions with the count `node`, whose messages are none and three times `node`.
two_messages : (node : ℕ) → List Record → Sheet
two_messages node rs = record {
  records = rs;
  constraints = [];
  interactions =
      record { bus = 7; weight = 1; count = node; message = node ∷ node ∷ node ∷ [] } ∷ record { bus = 7; weight = 1; count = node; message = [] } ∷ [];
}

-- Three records, two constraints, one interaction.
small : Sheet
small = record {
  records = v ∷ w ∷ record_of 6 0 1 1 0 ∷ [];
  constraints = 2 ∷ 0 ∷ [];
  interactions = record { bus = 7; weight = 1; count = 0; message = 1 ∷ [] } ∷ [];
}

fault : Record → ℕ
unfolding expands
fault r = record_fault prime (seventeen ++ (r ∷ [])) 33

further :
    -- the graph's constraints are sorted by node, not by source, and its terms carry their places there
    (builds (v ∷ w ∷ record_of 6 0 1 1 0 ∷ []) (2 ∷ 0 ∷ []) ≡ graph 6 (words (v ∷ w ∷ record_of 6 0 1 1 0 ∷ []) (0 ∷ 2 ∷ [])) 3)
    × (expands (words (v ∷ w ∷ record_of 6 0 1 1 0 ∷ []) (0 ∷ 2 ∷ []))
    ≡ expanded (0 ∷ 0 ∷ 1 ∷ 2 ∷ 1 ∷ 2 ∷ 1 ∷ 1 ∷ []) (1 ∷ 65537 ∷ []) (0 ∷ 1 ∷ 1 ∷ 1 ∷ 1 ∷ 1 ∷ []))
    -- the field's record goes in before the count's
    × (builder_call prime (encode (one_field 0 1 (v ∷ w ∷ []))) (2 ∷ 19 ∷ []) ≡ graph 2 (encode (one_field 1 0 (w ∷ v ∷ []))) 0)
    -- the largest offset is of any variable, and the largest message of any interaction
    × (max_rotation_call prime (words (record_of 1 1 0 3 0 ∷ record_of 1 0 0 5 0 ∷ record_of 6 0 1 7 0 ∷ []) []) ≡ answers (5 ∷ []))
    × ((interaction_call prime (encode (two_messages 0 (v ∷ []))) (4096 ∷ 60 ∷ 8 ∷ 8 ∷ 8 ∷ 8 ∷ 8 ∷ 9 ∷ [])).reply
    ≡ accepted_with (4 ∷ 1 ∷ 6 ∷ 4 ∷ 1 ∷ 9 ∷ []) (2 ∷ 3 ∷ []))
    -- E, C, I, L and where the interactions start; C; the L words without the spare one, and how many are needed
    × (check_call prime (encode small ++ (0 ∷ [])) ≡ answers (3 ∷ 2 ∷ 1 ∷ 26 ∷ 21 ∷ []))
    × (num_constraints_call prime (encode small) ≡ answers (2 ∷ []))
    × (conversion_call prime (encode small ++ (0 ∷ [])) (28 ∷ []) ≡ record { reply = accepted_with (26 ∷ []) []; slices = (encode small ++ (0 ∷ 0 ∷ [])) ∷ [] })
    × (conversion_call prime (encode small) (2 ∷ []) ≡ record { reply = refused_with 15 26; slices = (0 ∷ 0 ∷ []) ∷ [] })
    -- a list that just goes into the pool, and one that does not; the first slice that is too short
    × ((constraint_call prime (words (v ∷ []) (0 ∷ [])) (4096 ∷ 5 ∷ 4 ∷ 1 ∷ 2 ∷ [])).reply ≡ accepted_with (4 ∷ 1 ∷ 2 ∷ []) [])
    × ((constraint_call prime (words (v ∷ []) (0 ∷ [])) (4096 ∷ 4 ∷ 4 ∷ 1 ∷ 2 ∷ [])).reply ≡ refused_with 16 0)
    × ((constraint_call prime (words (v ∷ []) (0 ∷ [])) (4096 ∷ 5 ∷ 4 ∷ 0 ∷ 1 ∷ [])).reply ≡ refused_with 17 2)
    -- 256 working monomials pass, 272 give 12 although only 152 are left of them when they are combined
    × (fault (record_of 9 31 31 2 0) ≡ 0)
    × (fault (record_of 9 31 32 2 0) ≡ 12)
unfolding sheet_of builds words graph expands expanded one_field two_messages small answers listing fault seventeen many_vars sums_from
    check_call num_constraints_call conversion_call
further = (refl, refl, refl, refl, refl, refl, refl, refl, refl, refl, refl, refl, refl, refl)
