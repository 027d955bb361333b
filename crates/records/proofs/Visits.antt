-- A record's words, and the node that they are.
use mathlib.Core.Path.{◌≡◌, sym, ap, subst, ◌∙◌}
use mathlib.Core.List.{List}
use Prim.Native.Nat.{ℕ, ◌+◌, ◌≤◌, ◌<◌}
use native.Mathlib.Nat.{add-zero}
use native.Mathlib.Omega.{arith}
use lib.Dec.{leb}
use lib.ListN.{length, get_or}
use borrow.Author.Tests.{leb-true}
use Rattle.semantics.specs.Arithmetic.{prime}
use Rattle.semantics.specs.Answer.{good}
use Rattle.semantics.specs.Sheet.{Record, record_words, place, GoodRecord}
use Rattle.semantics.specs.Check.{read_sheet, check}
use Rattle.semantics.specs.Value.{Node, node_of, no_record, record_at}
use Rattle.semantics.specs.Walk.{Mem, children, children_at}
use Rattle.semantics.proofs.Basics.{and_true}
use Rattle.semantics.proofs.Lists.{each_zero}
use Rattle.semantics.proofs.Records.{is_kind, kind_good}
use Rattle.semantics.proofs.Places.{place_below}
use Rattle.semantics.proofs.Access.{record_word, words_count}
use Rattle.records.specs.declared.Record as declared
use Rattle.records.specs.Access.{five_words, node_in, records_of}
use Rattle.records.proofs.Steps.{inside}

module _ (ws : List ℕ) (checked : check prime ws ≡ good (read_sheet ws)) (r : ℕ) (l : r < length (records_of ws)) where
  pub record_good : GoodRecord prime r (record_at (records_of ws) r)
  unfolding record_at
  record_good = each_zero (GoodRecord prime) (records_of ws) r no_record (inside ws checked).records l

  pub kind_limits : (1 ≤ (record_at (records_of ws) r).kind) × ((record_at (records_of ws) r).kind ≤ 9)
  unfolding is_kind
  kind_limits =
      let q : Record = record_at (records_of ws) r in
      let t = and_true (leb 1 q.kind) (leb q.kind 9) (kind_good prime r q record_good) in
      (leb-true _ _ t.0, leb-true _ _ t.1)

  -- The record's words.
  pub kind_word : get_or ws (place 5 r) 0 ≡ (record_at (records_of ws) r).kind
  unfolding record_words
  kind_word = ap (λ (n : ℕ). get_or ws n 0) (sym (add-zero (place 5 r))) ∙ record_word prime ws (read_sheet ws) checked r 0 l (omega arith)

  pub a_word : get_or ws (place 5 r + 1) 0 ≡ (record_at (records_of ws) r).a
  unfolding record_words
  a_word = record_word prime ws (read_sheet ws) checked r 1 l (omega arith)

  pub b_word : get_or ws (place 5 r + 2) 0 ≡ (record_at (records_of ws) r).b
  unfolding record_words
  b_word = record_word prime ws (read_sheet ws) checked r 2 l (omega arith)

  pub c_word : get_or ws (place 5 r + 3) 0 ≡ (record_at (records_of ws) r).c
  unfolding record_words
  c_word = record_word prime ws (read_sheet ws) checked r 3 l (omega arith)

  pub d_word : get_or ws (place 5 r + 4) 0 ≡ (record_at (records_of ws) r).d
  unfolding record_words
  d_word = record_word prime ws (read_sheet ws) checked r 4 l (omega arith)

  pub record_inside : place 5 r + 5 ≤ length ws
  record_inside = omega (arith, words_count prime ws (read_sheet ws) checked, place_below 5 r (length (records_of ws)) l)

  abbrev R : Record
  R = record_at (records_of ws) r

  -- The record in the sheet.
  pub record_is : node_in ws r ≡ R
  record_is = λ t. record { kind = kind_word t; a = a_word t; b = b_word t; c = c_word t; d = d_word t }

  -- The five words that were read are the record's.
  module _ (q : declared.Record) (e : five_words q ≡ node_in ws r) where
    pub is : five_words q ≡ R
    is = e ∙ record_is

    pub c_is : q.c ≡ R.c
    c_is = ap (λ (z : Record). z.c) is

    -- It is the node that the words are, and that one's children are its.
    module _ {m : Node} (s : m ≡ node_of (five_words q)) where
      pub node_is : m ≡ node_of (record_at (records_of ws) r)
      node_is = s ∙ ap node_of is

      pub child_of : (c : ℕ) → Mem c (children m) → Mem c (children_at (records_of ws) r)
      unfolding children_at
      child_of c = subst (λ (k : Node). Mem c (children k)) node_is
