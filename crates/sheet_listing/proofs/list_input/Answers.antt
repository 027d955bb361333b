-- What is printed stands inside the slice, for what was read is itself an input; and the bytes of an input that are known are listed.
use Rattle.std.proofs.Common.{arith, length-take}
use Rattle.sheet_listing.proofs.Reading.{printed_within, listed}
use Rattle.sheet_listing.proofs.list_input.Goals as goal

pub slice_bounds-out-end : goal.slice_bounds-out-end
slice_bounds-out-end g c = printed_within _ _ _ _ c.list_read-printed.ensures

pub slice_bounds-write_all-end : goal.slice_bounds-write_all-end
slice_bounds-write_all-end g c = omega (
  arith,
  printed_within _ _ _ _ c.list_read-printed.ensures,
  length-take c.list_read-printed.result c.list_read-printed.new.out,
)

pub returns : goal.returns
returns g c = listed _ _ _ _ c.list_read-printed.ensures _ _ _ _ c.in_ok-n.ensures c.write_all.ensures.bytes
