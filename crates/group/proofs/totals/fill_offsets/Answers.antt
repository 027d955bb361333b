-- One call does it, over headers that are taken out of the words; `filled_rows` says what that is for the rows.
use native.Mathlib.Omega.{arith}
use Rattle.group.proofs.RowOffsets.{vars_total, terms_total, filled_rows}
use Rattle.group.proofs.totals.fill_offsets.Goals as goal

pub fill_words-requires : goal.fill_words-requires
fill_words-requires c =
    let a = c.args in
    let p = c.requires in
    (p.0, omega (arith, p.1, vars_total a.n a.headers.now), omega (arith, p.2, terms_total a.n a.headers.now))

pub returns : goal.returns
returns c =
    let u = c.fill_words in
    filled_rows c.args.n c.args.headers.now u.new.words c.requires.0 u.ensures
