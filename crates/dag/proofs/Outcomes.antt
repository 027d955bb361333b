-- The outcomes of the builder's call.
use mathlib.Core.Path.{◌≡◌, refl, sym, ap, ◌∙◌}
use mathlib.Core.List.{List, [], ◌∷◌}
use Prim.Native.Nat.{ℕ, ◌+◌, ◌-◌, ◌≤◌, ◌<◌}
use native.Mathlib.Omega.{arith}
use lib.Dec.{leb}
use lib.ListN.{length, take, replicate, length-replicate, replicate-append-replicate}
use lib.Seq.{take_at}
use borrow.Author.Tests.{le-leb, lt-leb}
use Rattle.semantics.specs.Arithmetic.{prime}
use Rattle.semantics.specs.Answer.{Answer, good, refused}
use Rattle.semantics.specs.Sheet.{Sheet, encode, length_of}
use Rattle.semantics.specs.Check.{read_sheet}
use Rattle.semantics.specs.Graph.{graph_of}
use Rattle.semantics.specs.Call.{Result as Made, outcome, needs, result, builder_call, check_call, zeros, padded_all}
use Rattle.semantics.proofs.Basics.{cond_true, cond_false}
use Rattle.answers.specs.declared.Refusal.{Refusal}
use Rattle.std.specs.Prelude.{Result, Ok, Err}
use Rattle.answers.specs.declared.Reason.TheVariants.{ScratchTooShort, OutputTooShort}
use Rattle.answers.specs.Replies.{number_of}
use Rattle.sheet.specs.declared.Head.{Head}
use Rattle.sheet.specs.Replies.{checked_outcome}
use Rattle.sheet.proofs.Answers.{found, on_found, on_refused}
use Rattle.records.specs.Access.{IsSheet}
use Rattle.records.proofs.Reading.{read_found}
use Rattle.graph_lists.specs.Lists.{graph_out, graph_length}
use Rattle.dag.specs.Calls.{built_outcome, Clear, Starting}

pub sheet_found : (ws : List ℕ) {r : Result Head Refusal} {h : Head} → checked_outcome r ≡ check_call prime ws → r ≡ Ok h
    → IsSheet ws × (h.words ≡ length_of (read_sheet ws))
sheet_found ws e q =
    let t = found prime ws e q in
    let s = read_found ws t.0 t.1 in
    (t.1 ∙ ap good s, ap (λ (h : Head). h.words) t.2 ∙ ap length_of s)

take_replicate : (k m : ℕ) → k ≤ m → take {A = ℕ} k (replicate m 0) ≡ replicate k 0
take_replicate k m h =
    let e : k + (m - k) ≡ m = omega arith in
    ap (λ (j : ℕ). take {A = ℕ} k (replicate j 0)) (sym e) ∙ ap (take {A = ℕ} k) (sym (replicate-append-replicate k (m - k) 0))
    ∙ take_at (replicate k 0) (replicate (m - k) 0) k (length-replicate {A = ℕ} k 0)

module _ (ws : List ℕ) (lent n : ℕ) where
  abbrev rest : Sheet → Answer Made
  rest s = needs 14 (length s.records) lent (needs 15 (length_of s) n (result (encode (graph_of prime s) ∷ []) []))

  refused_outcome : (v : Refusal) → built_outcome (Err v) (zeros lent) (zeros n) ≡ outcome (lent ∷ []) (n ∷ []) (refused (number_of v.reason) v.place)
  unfolding outcome
  refused_outcome v = refl

  pub call_refused : {r : Result Head Refusal} {v : Refusal} → checked_outcome r ≡ check_call prime ws → r ≡ Err v
      → built_outcome (Err v) (zeros lent) (zeros n) ≡ builder_call prime ws (lent ∷ n ∷ [])
  unfolding builder_call
  call_refused {v = v} e q = refused_outcome v ∙ ap (outcome (lent ∷ []) (n ∷ [])) (on_refused prime ws rest e q)

-- A checked sheet, with scratch and output of zeros.
module _ {ws : List ℕ} {records words : ℕ} {scratch out : List ℕ} (checked : IsSheet ws) (records_are : records ≡ length (read_sheet ws).records)
    (h : Clear ws words scratch out) where
  abbrev s : Sheet
  s = read_sheet ws

  abbrev lent : ℕ
  lent = length scratch

  abbrev n : ℕ
  n = length out

  abbrev after : Answer Made
  after = needs 15 (length_of s) n (result (encode (graph_of prime s) ∷ []) [])

  -- A refusal leaves the zeros.
  refused_clear : (v : Refusal) → built_outcome (Err v) (zeros lent) out ≡ outcome (lent ∷ []) (n ∷ []) (refused (number_of v.reason) v.place)
  refused_clear v = ap (built_outcome (Err v) (zeros lent)) h.out_is ∙ refused_outcome ws lent n v

  pub scratch_short : lent < records → built_outcome (Err (record { reason = ScratchTooShort; place = records })) (zeros lent) out ≡ builder_call prime ws (lent ∷ n ∷ [])
  unfolding builder_call needs
  scratch_short l =
      refused_clear (record { reason = ScratchTooShort; place = records })
      ∙ ap (outcome (lent ∷ []) (n ∷ []))
      (ap (refused 14) records_are
      ∙ sym (cond_false (leb (length s.records) lent) after (refused 14 (length s.records))
      (lt-leb (length s.records) lent (omega (arith, records_are))))
      ∙ on_found prime ws (rest ws lent n) checked)

  enough : records ≤ lent → after ≡ rest ws lent n s
  unfolding needs
  enough l =
      sym (cond_true (leb (length s.records) lent) after (refused 14 (length s.records))
      (le-leb (length s.records) lent (omega (arith, records_are))))

  pub out_short : records ≤ lent → n < words
      → built_outcome (Err (record { reason = OutputTooShort; place = words })) (zeros lent) out ≡ builder_call prime ws (lent ∷ n ∷ [])
  unfolding builder_call needs
  out_short l k =
      refused_clear (record { reason = OutputTooShort; place = words })
      ∙ ap (outcome (lent ∷ []) (n ∷ []))
      (ap (refused 15) h.words_are
      ∙ sym (cond_false (leb (length_of s) n) (result (encode (graph_of prime s) ∷ []) []) (refused 15 (length_of s))
      (lt-leb (length_of s) n (omega (arith, h.words_are))))
      ∙ enough l ∙ on_found prime ws (rest ws lent n) checked)

  pub graph_built : records ≤ lent → words ≤ n → (written : ℕ) (out' : List ℕ) → out' ≡ graph_out n ws → written ≡ graph_length ws
      → built_outcome (Ok written) (zeros lent) out' ≡ builder_call prime ws (lent ∷ n ∷ [])
  unfolding builder_call needs outcome padded_all result
  graph_built l k written out' eo ew =
      (λ i. record { reply = record { number = 0; place = 0; counts = ew i ∷ []; numbers = [] }; slices = zeros lent ∷ eo i ∷ [] })
      ∙ ap (outcome (lent ∷ []) (n ∷ []))
      (sym (cond_true (leb (length_of s) n) (result (encode (graph_of prime s) ∷ []) []) (refused 15 (length_of s))
      (le-leb (length_of s) n (omega (arith, h.words_are))))
      ∙ enough l ∙ on_found prime ws (rest ws lent n) checked)

  -- What building asks of the first words of scratch.
  pub starting : records ≤ lent → words ≤ n → Starting ws (take records scratch) out
  unfolding zeros
  starting l k = record {
    room = omega (arith, h.words_are);
    scratch_is =
        ap (take records) h.scratch_is
        ∙ take_replicate records lent l
        ∙ ap (λ (m : ℕ). replicate m 0) records_are;
    out_is = h.out_is;
  }
