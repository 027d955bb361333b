-- The check refuses the sheet, or finds it; then its words are copied, where the output has room for them.
use mathlib.Core.Path.{◌≡◌, refl, ap, ◌∙◌}
use Prim.Native.Nat.{ℕ}
use native.Mathlib.Omega.{arith}
use lib.ListN.{length, take}
use Rattle.semantics.specs.Arithmetic.{prime}
use Rattle.semantics.specs.Answer.{good}
use Rattle.semantics.specs.Check.{check}
use Rattle.semantics.specs.Sheet.{Sheet, length_of, encode}
use Rattle.semantics.specs.Call.{conversion_call}
use Rattle.sheet.proofs.Answers.{head_of, found, words_found, words_inside}
use Rattle.sheet.proofs.Outcomes.{sheet_refused, sheet_short, sheet_written}
use Rattle.sheet.specs.declared.Head.{Head}
use Rattle.slices.proofs.Laws.{copied_front}
use Rattle.sheet_calls.proofs.copy_sheet.Goals as goal

pub returns-in_default : goal.returns-in_default
unfolding conversion_call
returns-in_default c =
    let a = c.args in
    sheet_refused prime a.s.now length_of encode a.out.now refl c.check_sheet-checked.ensures c.unwrap_err.ensures

pub returns-then-out-words : goal.returns-then-out-words
unfolding conversion_call
returns-then-out-words c =
    let sheet : (t : Sheet) × (check prime c.args.s.now ≡ good t) × (c.in-Ok.head ≡ head_of t) =
    found prime c.args.s.now c.check_sheet-checked.ensures c.in-Ok.is in
    let words_are : c.in-Ok.head.words ≡ length_of sheet.0 =
    ap (λ (h : Head). h.words) sheet.2 in
    sheet_short prime c.args.s.now length_of encode c.args.out.now refl sheet.1 words_are c.if-out-words.true

pub slice_bounds-copy_front-end : goal.slice_bounds-copy_front-end
slice_bounds-copy_front-end c =
    let sheet : (t : Sheet) × (check prime c.args.s.now ≡ good t) × (c.in-Ok.head ≡ head_of t) =
    found prime c.args.s.now c.check_sheet-checked.ensures c.in-Ok.is in
    words_inside prime c.args.s.now sheet.1 sheet.2

pub returns : goal.returns
unfolding conversion_call
returns c =
    let sheet : (t : Sheet) × (check prime c.args.s.now ≡ good t) × (c.in-Ok.head ≡ head_of t) =
    found prime c.args.s.now c.check_sheet-checked.ensures c.in-Ok.is in
    let words_are : c.in-Ok.head.words ≡ length_of sheet.0 =
    ap (λ (h : Head). h.words) sheet.2 in
    let copy = c.copy_front in
    let t = sheet in
    let front = words_found prime c.args.s.now t.1 t.2 in
    let inside = words_inside prime c.args.s.now t.1 t.2 in
    sheet_written prime c.args.s.now length_of encode copy.new.out copy.auto.out t.1 words_are c.if-out-words.false
    (ap (λ (c : ℕ). take c copy.new.out) inside ∙ copied_front _ _ c.args.out.now (omega arith) copy.ensures ∙ front)
    (inside ∙ ap length front)
