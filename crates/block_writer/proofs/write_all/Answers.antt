-- The check refuses the sheet, or finds it; then its blocks are written, where the output has room for them.
use mathlib.Core.Path.{◌≡◌, refl, ◌∙◌}
use native.Mathlib.Omega.{arith}
use borrow.Author.Rules.{rules}
use Rattle.semantics.specs.Arithmetic.{prime}
use Rattle.semantics.specs.Answer.{good}
use Rattle.semantics.specs.Sheet.{Sheet}
use Rattle.semantics.specs.Check.{check}
use Rattle.semantics.specs.Call.{writer_call}
use Rattle.sheet.proofs.Answers.{head_of, found, words_few, words_inside}
use Rattle.sheet.proofs.Outcomes.{sheet_refused, sheet_short, sheet_written}
use Rattle.block_writer.proofs.Writing.{sheet_bytes, sheet_blocks, bytes_are, made_are, made_length}
use Rattle.block_writer.proofs.write_all.Goals as goal

pub returns-in_default : goal.returns-in_default
unfolding writer_call
returns-in_default c =
    let a = c.args in
    sheet_refused prime a.s.now sheet_bytes sheet_blocks a.out.now refl c.check_sheet-checked.ensures c.unwrap_err.ensures

pub overflow_add-blocks : goal.overflow_add-blocks
overflow_add-blocks c =
    let sheet : (t : Sheet) × (check prime c.args.s.now ≡ good t) × (c.in-Ok.head ≡ head_of t) =
    found prime c.args.s.now c.check_sheet-checked.ensures c.in-Ok.is in
    omega (arith, words_few prime c.args.s.now sheet.1 sheet.2)

pub overflow_mul-needed : goal.overflow_mul-needed
overflow_mul-needed c =
    let sheet : (t : Sheet) × (check prime c.args.s.now ≡ good t) × (c.in-Ok.head ≡ head_of t) =
    found prime c.args.s.now c.check_sheet-checked.ensures c.in-Ok.is in
    omega (arith, words_few prime c.args.s.now sheet.1 sheet.2)

pub returns-then-out-needed : goal.returns-then-out-needed
unfolding writer_call
returns-then-out-needed c =
    let sheet : (t : Sheet) × (check prime c.args.s.now ≡ good t) × (c.in-Ok.head ≡ head_of t) =
    found prime c.args.s.now c.check_sheet-checked.ensures c.in-Ok.is in
    let t = sheet in
    sheet_short prime c.args.s.now sheet_bytes sheet_blocks c.args.out.now refl t.1 (bytes_are prime c.args.s.now t.1 t.2) c.if-out-needed.true

pub slice_bounds-write_each-end : goal.slice_bounds-write_each-end
slice_bounds-write_each-end c =
    let sheet : (t : Sheet) × (check prime c.args.s.now ≡ good t) × (c.in-Ok.head ≡ head_of t) =
    found prime c.args.s.now c.check_sheet-checked.ensures c.in-Ok.is in
    words_inside prime c.args.s.now sheet.1 sheet.2

pub write_each-requires : goal.write_each-requires
write_each-requires c =
    let sheet : (t : Sheet) × (check prime c.args.s.now ≡ good t) × (c.in-Ok.head ≡ head_of t) =
    found prime c.args.s.now c.check_sheet-checked.ensures c.in-Ok.is in
    let few = words_few prime c.args.s.now sheet.1 sheet.2 in
    let inside = words_inside prime c.args.s.now sheet.1 sheet.2 in
    (omega (arith, few), omega (arith, inside), search rules)

pub returns : goal.returns
unfolding writer_call
returns c =
    let sheet : (t : Sheet) × (check prime c.args.s.now ≡ good t) × (c.in-Ok.head ≡ head_of t) =
    found prime c.args.s.now c.check_sheet-checked.ensures c.in-Ok.is in
    let write = c.write_each in
    let w = c.args.s.now in
    let t = sheet in
    sheet_written prime w sheet_bytes sheet_blocks write.new.out write.auto.out t.1 (bytes_are prime w t.1 t.2) c.if-out-needed.false
    (write.ensures ∙ made_are prime w t.1 t.2) (made_length prime w t.1 t.2)
