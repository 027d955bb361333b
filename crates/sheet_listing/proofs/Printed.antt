-- What the answers of the reader, of the builder and of `max_rotation` print.
use mathlib.Core.Path.{◌≡◌, refl, sym, ap, subst, ◌∙◌}
use mathlib.Core.List.{List, [], ◌∷◌, ◌++◌, flat_map}
use Prim.Native.Nat.{ℕ, ◌≤◌, ◌<◌}
use native.Mathlib.Omega.{arith}
use lib.Dec.{leb}
use lib.ListN.{length, get_or, take, length-append}
use borrow.Author.Tests.{le-leb}
use Rattle.semantics.specs.Arithmetic.{prime}
use Rattle.semantics.specs.Sheet.{Sheet, encode, head_words, record_words, interaction_words}
use Rattle.semantics.specs.Graph.{graph_of}
use Rattle.semantics.specs.Call.{Outcome, handed_back, reader_call}
use Rattle.semantics.specs.Sheetlist.{decimal, line, refused_text, read_text, dag_text, step, most_taken, graph_lines, sheet_lines, sheetlist, constraint_step}
use Rattle.semantics.proofs.Basics.{cond_true}
use Rattle.std.specs.Prelude.{Result, Ok, Err}
use Rattle.answers.specs.declared.Refusal.{Refusal}
use Rattle.answers.specs.Replies.{number_of, written_outcome, counted_outcome}
use Rattle.dag.specs.Calls.{built_outcome}
use Rattle.demands.proofs.Demands.{build_demand}
use Rattle.listing.proofs.Steps.{builds, rotates, step_on, dag_line, graph_prints, sheet_prints}
use Rattle.sheet_listing.proofs.Sounds.{Sound, reader_sound, builder_sound, rotation_real, refused_line, output_refused}

-- The graph.
module _ (graph : List ℕ) (r : Result ℕ Refusal) (e : counted_outcome r ≡ rotates graph) where
  pub rotation_refused : (x : Refusal) → r ≡ Err x
      → line (refused_text ∷ dag_text ∷ decimal (number_of x.reason) ∷ decimal x.place ∷ []) ≡ graph_lines prime graph
  rotation_refused x q =
      let o : counted_outcome (Err x) ≡ rotates graph = ap counted_outcome (sym q) ∙ e in
      refused_line dag_text (rotates graph) _ x (ap (λ (y : Outcome). y.reply) o)
      (rotation_real prime graph (ap (λ (y : Outcome). y.reply.numbers) (sym o)))
      ∙ graph_prints graph

  pub graph_joins : (n : ℕ) → r ≡ Ok n → dag_line graph n ++ constraint_step prime graph ≡ graph_lines prime graph
  graph_joins n q =
      let o : counted_outcome (Ok n) ≡ rotates graph = ap counted_outcome (sym q) ∙ e in
      ap (λ (y : Outcome). dag_line graph (get_or y.reply.numbers 0 0) ++ constraint_step prime graph) o
      ∙ step_on dag_text (rotates graph) _ (ap (λ (y : Outcome). y.reply.number) (sym o))
      ∙ graph_prints graph

-- A sheet's words are four at the least.
some_words : (s : Sheet) → 3 < length (encode s)
unfolding encode head_words
some_words s = omega (arith, length-append (head_words s) (flat_map record_words s.records ++ (s.constraints ++ flat_map interaction_words s.interactions)))

-- The builder.
module _ (sheet : List ℕ) (r : Result ℕ Refusal) (scratch out : List ℕ) (e : built_outcome r scratch out ≡ builds sheet) where
  pub built_refused : (x : Refusal) → r ≡ Err x
      → line (refused_text ∷ dag_text ∷ decimal (number_of x.reason) ∷ decimal x.place ∷ []) ≡ sheet_lines prime sheet
  built_refused x q =
      let o : built_outcome (Err x) scratch out ≡ builds sheet = ap (λ a. built_outcome a scratch out) (sym q) ∙ e in
      output_refused dag_text 1 (builds sheet) _ x (builder_sound prime sheet 1016 1016)
      (ap (λ (y : Outcome). y.reply) o) (subst (λ (y : Outcome). 1 < length y.slices) o (omega arith))
      ∙ sheet_prints sheet

  module _ (n : ℕ) (q : r ≡ Ok n) where
    built : builds sheet ≡ built_outcome (Ok n) scratch out
    built = sym e ∙ ap (λ a. built_outcome a scratch out) q

    built_fits : n ≤ length out
    built_fits =
        let s : Sound 1 (built_outcome (Ok n) scratch out) = subst (Sound 1) built (builder_sound prime sheet 1016 1016) in
        s.inside 0 (omega arith)

    graph_words : 2 < length (take n out)
    graph_words =
        let d = build_demand sheet 1016 1016 (Ok n) scratch out (sym built) refl in
        omega (arith, ap length d.2.words, some_words (graph_of prime d.0))

    graph_back : handed_back 1 (builds sheet) 0 ≡ take n out
    unfolding handed_back
    graph_back = ap (λ (o : Outcome). handed_back 1 o 0) built

    built_joins : graph_lines prime (take n out) ≡ sheet_lines prime sheet
    built_joins =
        ap (graph_lines prime) (sym graph_back)
        ∙ step_on dag_text (builds sheet) (graph_lines prime (handed_back 1 (builds sheet) 0)) (ap (λ (u : Outcome). u.reply.number) built)
        ∙ sheet_prints sheet

    pub graph_written : (n ≤ length out) × (2 < length (take n out)) × (graph_lines prime (take n out) ≡ sheet_lines prime sheet)
    graph_written = (built_fits, graph_words, built_joins)

-- The reader.
module _ (bytes : List ℕ) where
  abbrev reads : Outcome
  reads = reader_call bytes (1016 ∷ [])

  module _ (l : length bytes ≤ most_taken) (r : Result ℕ Refusal) (sheet : List ℕ) (e : written_outcome r sheet ≡ reads) where
    bytes_print : step read_text reads (sheet_lines prime (handed_back 0 reads 0)) ≡ sheetlist prime bytes
    unfolding sheetlist
    bytes_print = sym (cond_true (leb (length bytes) most_taken) _ _ (le-leb (length bytes) most_taken l))

    pub read_refused : (x : Refusal) → r ≡ Err x
        → line (refused_text ∷ read_text ∷ decimal (number_of x.reason) ∷ decimal x.place ∷ []) ≡ sheetlist prime bytes
    read_refused x q =
        let o : written_outcome (Err x) sheet ≡ reads = ap (λ a. written_outcome a sheet) (sym q) ∙ e in
        output_refused read_text 0 reads _ x (reader_sound bytes 1016)
        (ap (λ (y : Outcome). y.reply) o) (subst (λ (y : Outcome). 0 < length y.slices) o (omega arith))
        ∙ bytes_print

    module _ (n : ℕ) (q : r ≡ Ok n) where
      read : reads ≡ written_outcome (Ok n) sheet
      read = sym e ∙ ap (λ a. written_outcome a sheet) q

      read_fits : n ≤ length sheet
      read_fits =
          let s : Sound 0 (written_outcome (Ok n) sheet) = subst (Sound 0) read (reader_sound bytes 1016) in
          s.inside 0 (omega arith)

      sheet_back : handed_back 0 reads 0 ≡ take n sheet
      unfolding handed_back
      sheet_back = ap (λ (o : Outcome). handed_back 0 o 0) read

      read_joins : sheet_lines prime (take n sheet) ≡ sheetlist prime bytes
      read_joins =
          ap (sheet_lines prime) (sym sheet_back)
          ∙ step_on read_text reads (sheet_lines prime (handed_back 0 reads 0)) (ap (λ (u : Outcome). u.reply.number) read)
          ∙ bytes_print

      pub sheet_read : (n ≤ length sheet) × (sheet_lines prime (take n sheet) ≡ sheetlist prime bytes)
      sheet_read = (read_fits, read_joins)
