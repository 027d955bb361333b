use Rattle.listing.specs.Families.{line_of}
use Rattle.listing.proofs.Rows.{rows_all, row_wide, row_room, row_more}
use Rattle.listing.proofs.Heads.{some_words}
use Rattle.listing.proofs.output.Out.put_terms.Goals as goal

pub put_term-requires : goal.put_term-requires
put_term-requires c =
    let came = c.in-Some.ensures.steps.1 in
    let some = some_words c.args.family in
    let text = line_of c.args.family in
    (row_wide some text c.loop-term.invariant _ _ came.0 came.1, row_room some text c.loop-term.invariant _ _ came.0 came.1)

pub loop-term-preserved : goal.loop-term-preserved
loop-term-preserved c =
    let came = c.in-Some.ensures.steps in
    row_more (some_words c.args.family) (line_of c.args.family) c.loop-term.invariant _ _ came.1.0 came.1.1 came.0 c.put_term.ensures

pub returns : goal.returns
returns c = rows_all (some_words c.args.family) (line_of c.args.family) c.loop-term.invariant c.in-None.ensures.steps.1.0
