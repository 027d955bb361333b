-- Every public call as one function from its input and the lent lengths to the reply and the content of each writable slice
-- (01, "What each call hands back").
use Rattle.std.specs.Prelude.{◌≡◌, Bool, cond, ℕ, suc, ◌+◌, ◌*◌, ◌-◌, ◌/◌, max, eqb, leb, length, get_or, take, drop, replicate}
use mathlib.Core.List.{List, [], ◌∷◌, ◌++◌, map, foldr}
use Rattle.slices.specs.Lent.{Lent, lengths, contents}
use Rattle.semantics.specs.Answer.{Answer, good, refused, and_then}
use Rattle.semantics.specs.Sheet.{Record, Interaction, Sheet, record_words, encode, length_of, place}
use Rattle.semantics.specs.Check.{check}
use Rattle.semantics.specs.Block.{bad_length, read_blocks, write_blocks, blocks_for, block_check}
use Rattle.semantics.specs.Packing.{pack_record, pack, unpack}
use Rattle.semantics.specs.Walk.{order}
use Rattle.semantics.specs.Graph.{graph_of, max_rotation}
use Rattle.semantics.specs.Monomial.{list_at}
use Rattle.semantics.specs.Expand.{expand_all}
use Rattle.semantics.specs.Group.{Root, Item, constraint_roots, count_roots, field_roots, groups, constraint_term, interaction_term, layout}

-- "Acceptance is number 0 with the count of words (or bytes) written to each slice", and for some calls further numbers.
pub record Reply : Type 0 where
  pub number : ℕ
  pub place : ℕ
  pub counts : List ℕ
  pub numbers : List ℕ

abbrev pub accepted_with : (counts numbers : List ℕ) → Reply
accepted_with counts numbers = record { number = 0; place = 0; counts = counts; numbers = numbers }

-- "A refusal is a number and a place"
abbrev pub refused_with : (number place : ℕ) → Reply
refused_with number place = record { number = number; place = place; counts = []; numbers = [] }

-- The reply, and every slice lent for writing: scratch first, then the outputs.
pub record Outcome : Type 0 where
  pub reply : Reply
  pub slices : List (List ℕ)

-- A call handed back what an outcome says: the fields of a reply, as C has them, and every slice lent for writing.
abbrev pub Handed : {X : Type 0} → (fields : Reply → X) → X → (slices : List (List ℕ)) → Outcome → Type 0
Handed fields x slices o = (x ≡ fields o.reply) × (slices ≡ o.slices)

-- What a call handed back: the reply that its answer stands for, and what every slice lent for writing holds.
abbrev pub outcome_of : {X : Type 0} → (replyOf : X → Reply) → X → List Lent → Outcome
outcome_of replyOf x lent = record { reply = replyOf x; slices = contents lent }

-- That is the call's outcome for the lengths that were lent; the same where it hands back the fields of a reply.
abbrev pub Gives : {X : Type 0} → (replyOf : X → Reply) → X → List Lent → (call : List ℕ → Outcome) → Type 0
Gives replyOf x lent call = outcome_of replyOf x lent ≡ call (lengths lent)

abbrev pub Returns : {X : Type 0} → (fields : Reply → X) → X → List Lent → (call : List ℕ → Outcome) → Type 0
Returns fields x lent call = Handed fields x (contents lent) (call (lengths lent))

-- What an accepted call writes to its outputs, and the further numbers.
pub record Result : Type 0 where
  pub outputs : List (List ℕ)
  pub numbers : List ℕ

unfoldable pub zeros : ℕ → List ℕ
zeros n = replicate n 0

-- "Past the written part, each slice lent for writing holds zeros"
unfoldable pub padded : List ℕ → (lent : ℕ) → List ℕ
padded ws lent = ws ++ zeros (lent - length ws)

unfoldable pub padded_all : List (List ℕ) → (lent : List ℕ) → List (List ℕ)
padded_all [] lent = []
padded_all (w ∷ ws) [] = []
padded_all (w ∷ ws) (n ∷ ns) = padded w n ∷ padded_all ws ns

-- "scratch ends all zero"; "A refusal is a number and a place, and every slice lent for writing, of any length, then holds only zeros."
unfoldable pub outcome : (scratch outputs : List ℕ) → Answer Result → Outcome
outcome scratch outputs (good r) = record {
  reply = accepted_with (map length r.outputs) r.numbers;
  slices = map zeros scratch ++ padded_all r.outputs outputs;
}
outcome scratch outputs (refused n k) = record {
  reply = refused_with n k;
  slices = map zeros (scratch ++ outputs);
}

-- The words handed back in output k, for a call with so many slices of scratch.
unfoldable pub handed_back : (scratch : ℕ) → Outcome → (k : ℕ) → List ℕ
handed_back scratch o k = take (get_or o.reply.counts k 0) (get_or o.slices (scratch + k) [])

abbrev pub Accepted : Outcome → Type 0
Accepted o = o.reply.number ≡ 0

-- "14: scratch shorter than the call needs. Place: words needed"; 15 likewise for an output.
unfoldable pub needs : {X : Type 0} → (number needed lent : ℕ) → Answer X → Answer X
needs number needed lent rest = cond (leb needed lent) rest (refused number needed)

unfoldable pub result : List (List ℕ) → List ℕ → Answer Result
result outputs numbers = good (record { outputs = outputs; numbers = numbers })

-- Block check alone: 1 for yes, 0 for no.
unfoldable pub block_check_call : (bytes : List ℕ) (number : ℕ) → Outcome
block_check_call bytes number = outcome [] [] (and_then (block_check number bytes) (λ (yes' : Bool). result [] (cond yes' 1 0 ∷ [])))

-- A call that writes takes the lengths of the slices lent to it, in the order in which it takes the slices.
-- "Reader: 1, 15, 2."
unfoldable pub reader_call : (bytes lent : List ℕ) → Outcome
reader_call bytes lent =
    outcome [] lent
    (cond (bad_length (length bytes)) (refused 1 0)
    (needs 15 (127 * (length bytes / 512)) (get_or lent 0 0)
    (and_then (read_blocks (length bytes / 512) 0 bytes) (λ ws. result (ws ∷ []) []))))

-- "Every sheet call first checks it (3 to 7)": the rest of a call, for the sheet that the words are.
unfoldable pub on_sheet : (p : ℕ) → List ℕ → (Sheet → Answer Result) → Answer Result
on_sheet p ws rest = and_then (check p ws) rest

-- The block writer; its output is counted in bytes.
unfoldable pub writer_call : (p : ℕ) (ws lent : List ℕ) → Outcome
writer_call p ws lent =
    outcome [] lent
    (on_sheet p ws (λ s. needs 15 (512 * blocks_for (length_of s)) (get_or lent 0 0)
    (result (write_blocks (blocks_for (length_of s)) 0 (encode s) ∷ []) [])))

-- The sheet check: E, C, I, L and where the interactions start.
unfoldable pub check_call : (p : ℕ) (ws : List ℕ) → Outcome
check_call p ws =
    outcome [] []
    (on_sheet p ws (λ s. result [] (
    length s.records ∷ length s.constraints ∷ length s.interactions ∷ length_of s
    ∷ (place 5 (length s.records) + length s.constraints) ∷ [])))

-- The builder: "Scratch E words; output L words."
unfoldable pub builder_call : (p : ℕ) (ws lent : List ℕ) → Outcome
builder_call p ws lent =
    outcome (take 1 lent) (drop 1 lent)
    (on_sheet p ws (λ s. needs 14 (length s.records) (get_or lent 0 0) (needs 15 (length_of s) (get_or lent 1 0)
    (result (encode (graph_of p s) ∷ []) []))))

-- "`max_rotation` is the largest offset .. `num_constraints` is C of the sheet given .. Both hand back the number with 0."
unfoldable pub max_rotation_call : (p : ℕ) (ws : List ℕ) → Outcome
max_rotation_call p ws = outcome [] [] (on_sheet p ws (λ s. result [] (max_rotation s ∷ [])))

unfoldable pub num_constraints_call : (p : ℕ) (ws : List ℕ) → Outcome
num_constraints_call p ws = outcome [] [] (on_sheet p ws (λ s. result [] (length s.constraints ∷ [])))

-- "The conversion .. copies the L words as an expression sheet."
unfoldable pub conversion_call : (p : ℕ) (ws lent : List ℕ) → Outcome
conversion_call p ws lent = outcome [] lent (on_sheet p ws (λ s. needs 15 (length_of s) (get_or lent 0 0) (result (encode s ∷ []) [])))

-- Packing and unpacking, called alone.
unfoldable pub pack_call : Record → Outcome
pack_call r = outcome [] [] (and_then (pack r) (λ n. result [] (n ∷ [])))

unfoldable pub unpack_call : ℕ → Outcome
unpack_call n = outcome [] [] (and_then (unpack n) (λ r. result [] (record_words r)))

-- Packing a variable or row mark whose words are not to be judged: 8 to 11 only.
unfoldable pub variable_call : Record → Outcome
variable_call r = outcome [] [] (and_then (pack_record r) (λ n. result [] (n ∷ [])))

-- "17: a finished list exceeds its output slice. Place: the first such slice": counted from `k`, or 0.
unfoldable pub first_short : (k : ℕ) → List (List ℕ) → (lent : List ℕ) → ℕ
first_short k [] lent = 0
first_short k (w ∷ ws) [] = 0
first_short k (w ∷ ws) (n ∷ ns) = cond (leb (length w) n) (first_short (suc k) ws ns) k

unfoldable pub fitted : List (List ℕ) → (lent numbers : List ℕ) → Answer Result
fitted outputs lent numbers = cond (eqb (first_short 1 outputs lent) 0) (result outputs numbers) (refused 17 (first_short 1 outputs lent))

-- The three slices of a family of roots of a sheet.
unfoldable pub family : (p : ℕ) → Sheet → (Item → List ℕ) → List Root → List (List ℕ)
family p s term roots = layout term (groups (list_at p s.records) roots)

-- "Then 14, work before pool; .. then the walk (8 to 13, 16); then 17." Work is 4,096 words, and the pool 2 words a record at the least.
unfoldable pub expansion_of : (p : ℕ) (lent : List ℕ)
    → (roots : Sheet → List Root) (outputs : Sheet → List (List ℕ)) (numbers : Sheet → List ℕ) → Sheet → Answer Result
expansion_of p lent roots outputs numbers s =
    let pool : ℕ = get_or lent 1 0 in
    needs 14 4096 (get_or lent 0 0) (needs 14 (2 * length s.records) pool
    (and_then (expand_all p s.records pool (order s.records (map (λ (r : Root). r.node) (roots s))))
    (λ used. fitted (outputs s) (drop 2 lent) (numbers s))))

unfoldable pub expansion : (p : ℕ) (ws lent : List ℕ) → (rest : Sheet → Answer Result) → Outcome
expansion p ws lent rest = outcome (take 2 lent) (drop 2 lent) (on_sheet p ws rest)

-- "The constraint call .. takes any sheet's constraints as given, repeats included": headers, variables, terms.
unfoldable pub constraint_outputs : (p : ℕ) → Sheet → List (List ℕ)
constraint_outputs p s = family p s constraint_term (constraint_roots s)

abbrev pub constraints_of : (p : ℕ) (lent : List ℕ) → Sheet → Answer Result
constraints_of p lent = expansion_of p lent constraint_roots (constraint_outputs p) (λ s. [])

unfoldable pub constraint_call : (p : ℕ) (ws lent : List ℕ) → Outcome
constraint_call p ws lent = expansion p ws lent (constraints_of p lent)

-- "The interaction call .. walks the counts of all interactions, then all fields": numerators, then denominators.
unfoldable pub interaction_outputs : (p : ℕ) → Sheet → List (List ℕ)
interaction_outputs p s = family p s interaction_term (count_roots s) ++ family p s interaction_term (field_roots s)

-- `max_fields_len` is the largest message length, 0 if there is none.
unfoldable pub max_fields_len_of : Sheet → ℕ
max_fields_len_of s = foldr (λ (x : Interaction) (n : ℕ). max (length x.message) n) 0 s.interactions

-- "the interaction call adds `num_interactions` and `max_fields_len`"
abbrev pub interaction_numbers : Sheet → List ℕ
interaction_numbers s = length s.interactions ∷ max_fields_len_of s ∷ []

abbrev pub interactions_of : (p : ℕ) (lent : List ℕ) → Sheet → Answer Result
interactions_of p lent =
    expansion_of p lent (λ s. count_roots s ++ field_roots s) (interaction_outputs p) interaction_numbers

unfoldable pub interaction_call : (p : ℕ) (ws lent : List ℕ) → Outcome
interaction_call p ws lent = expansion p ws lent (interactions_of p lent)
