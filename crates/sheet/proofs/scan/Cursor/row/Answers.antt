-- Each word is judged by `word_fits`.
use Rattle.std.proofs.Common.{get_or, refl, arith, rules}
use Rattle.std.proofs.Math.ListN.{get_or-map}
use Rattle.std.proofs.lemmas.List.{length-map}
use Rattle.semantics.specs.Arithmetic.{prime}
use Rattle.semantics.specs.Sheet.{fits}
use Rattle.sheet.specs.declared.scan.Use.TheVariants.{Unused}
use Rattle.sheet.specs.Scans.{use_of}
use Rattle.sheet.proofs.Laws.{row_stop, row_next, row_done}
use Rattle.sheet.proofs.scan.Cursor.row.Goals as goal

pub returns-in_default : goal.returns-in_default
returns-in_default c =
    let a = c.args in
    let l = c.loop-how in
    let word = c.word-word.ensures.scan (fits prime a.own a.a (use_of (get_or a.row l.how-index Unused))) (λ w passes few said. search rules) in
    row_stop l.invariant (omega (arith, length-map a.row use_of)) _ (get_or-map use_of a.row l.how-index Unused) _ _ word _ c.unwrap_err.ensures

pub loop-how-preserved : goal.loop-how-preserved
loop-how-preserved c =
    let a = c.args in
    let l = c.loop-how in
    let word = c.word-word.ensures.scan (fits prime a.own a.a (use_of (get_or a.row l.how-index Unused))) (λ w passes few said. search rules) in
    row_next l.invariant (omega (arith, length-map a.row use_of)) _ (get_or-map use_of a.row l.how-index Unused) _ _ word _ c.in-Ok.is

pub loop-how-init : goal.loop-how-init
loop-how-init c = record { give = refl }

pub returns : goal.returns
returns c = row_done c.loop-how.invariant (omega (arith, length-map c.args.row use_of))
