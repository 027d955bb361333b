use native.Mathlib.Omega.{arith}
use Rattle.semantics.specs.Sheetlist.{decimal}
use Rattle.listing.proofs.Writing.{spaced_all, space_room, text_room, spaced_more}
use Rattle.listing.proofs.output.Out.put_numbers.Goals as goal

pub put_byte-requires : goal.put_byte-requires
put_byte-requires c = space_room decimal c.args.numbers.now c.loop-n.n-index (omega arith) c.loop-n.invariant

pub put_decimal-requires : goal.put_decimal-requires
put_decimal-requires c = text_room decimal c.args.numbers.now c.loop-n.n-index (omega arith) c.loop-n.invariant c.put_byte.ensures

pub loop-n-preserved : goal.loop-n-preserved
loop-n-preserved c = spaced_more decimal c.args.numbers.now c.loop-n.n-index (omega arith) c.loop-n.invariant c.put_byte.ensures c.put_decimal.ensures

pub returns : goal.returns
returns c = spaced_all decimal c.args.numbers.now c.loop-n.n-index c.loop-n-test.false c.loop-n.invariant
