use native.Mathlib.Omega.{arith}
use Rattle.semantics.specs.Sheetlist.{hex_digits}
use Rattle.listing.proofs.Writing.{spaced_all, space_room, text_room, spaced_more}
use Rattle.listing.proofs.output.Out.put_variables.Goals as goal

pub put_byte-requires : goal.put_byte-requires
put_byte-requires c = space_room (hex_digits 8) c.args.variables.now c.loop-v.v-index (omega arith) c.loop-v.invariant

pub put_hex-requires : goal.put_hex-requires
put_hex-requires c = text_room (hex_digits 8) c.args.variables.now c.loop-v.v-index (omega arith) c.loop-v.invariant c.put_byte.ensures

pub loop-v-preserved : goal.loop-v-preserved
loop-v-preserved c = spaced_more (hex_digits 8) c.args.variables.now c.loop-v.v-index (omega arith) c.loop-v.invariant c.put_byte.ensures c.put_hex.ensures

pub returns : goal.returns
returns c = spaced_all (hex_digits 8) c.args.variables.now c.loop-v.v-index c.loop-v-test.false c.loop-v.invariant
