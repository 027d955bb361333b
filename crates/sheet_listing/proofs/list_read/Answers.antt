-- The bytes that were read print the same as the input, for the buffer takes one byte more than `sheetlist`.
use borrow.Author.Rules.{rules}
use Rattle.sheet_listing.proofs.Inputs.{read_prints}
use Rattle.sheet_listing.proofs.list_read.Goals as goal

pub returns : goal.returns
returns c = λ input read.
    let a = c.args in
    rw (← read_prints a.buffer.now a.n (search rules) c.min.ensures input read) c.list_sheet.ensures
