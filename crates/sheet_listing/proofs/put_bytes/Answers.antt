-- More bytes than are taken, a refusal of the reader, or the sheet that it read: each prints the same as the bytes.
use mathlib.Core.Path.{sym}
use native.Mathlib.Omega.{arith}
use lib.ListN.{length-take}
use Rattle.semantics.specs.Arithmetic.{prime}
use Rattle.semantics.proofs.Listings.{too_many}
use Rattle.listing.proofs.Writing.{room_is, puts_is}
use Rattle.sheet_listing.proofs.Printed.{read_refused, sheet_read}
use Rattle.sheet_listing.proofs.put_bytes.Goals as goal

pub put_refused-requires : goal.put_refused-requires
put_refused-requires c = room_is c.args.out.now (sym (too_many prime c.args.bytes.now c.if-bytes-gt4096.true)) c.requires

pub returns-then-bytes-gt4096 : goal.returns-then-bytes-gt4096
returns-then-bytes-gt4096 c = puts_is c.put_refused.ensures (sym (too_many prime c.args.bytes.now c.if-bytes-gt4096.true))

pub put_refused-requires-in_default : goal.put_refused-requires-in_default
put_refused-requires-in_default c =
    room_is c.args.out.now
    (read_refused c.args.bytes.now c.if-bytes-gt4096.false _ _ c.read_blocks-read.ensures _ c.unwrap_err.ensures) c.requires

pub returns-in_default : goal.returns-in_default
returns-in_default c =
    puts_is c.put_refused-in_default.ensures
    (read_refused c.args.bytes.now c.if-bytes-gt4096.false _ _ c.read_blocks-read.ensures _ c.unwrap_err.ensures)

pub slice_bounds-sheet-end : goal.slice_bounds-sheet-end
slice_bounds-sheet-end c = (sheet_read c.args.bytes.now c.if-bytes-gt4096.false _ _ c.read_blocks-read.ensures _ c.in-Ok.is).0

pub slice_bounds-put_sheet-end : goal.slice_bounds-put_sheet-end
slice_bounds-put_sheet-end c =
    let v = c.read_blocks-read in
    omega (arith, (sheet_read c.args.bytes.now c.if-bytes-gt4096.false v.result v.new.out v.ensures c.in-Ok.n c.in-Ok.is).0, length-take c.in-Ok.n v.new.out)

pub put_sheet-requires : goal.put_sheet-requires
put_sheet-requires c =
    room_is c.args.out.now (sheet_read c.args.bytes.now c.if-bytes-gt4096.false _ _ c.read_blocks-read.ensures _ c.in-Ok.is).1 c.requires

pub returns : goal.returns
returns c = puts_is c.put_sheet.ensures (sheet_read c.args.bytes.now c.if-bytes-gt4096.false _ _ c.read_blocks-read.ensures _ c.in-Ok.is).1
