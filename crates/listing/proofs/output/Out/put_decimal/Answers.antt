-- A number in decimal has ten digits at the most.
use Rattle.semantics.specs.Sheetlist.{decimal}
use Rattle.listing.proofs.output.Out.put_decimal.Goals as goal

pub put_digits-requires : goal.put_digits-requires
unfolding decimal
put_digits-requires c = c.requires

pub returns : goal.returns
unfolding decimal
returns c = c.put_digits.ensures
