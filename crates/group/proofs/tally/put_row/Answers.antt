-- Four words are written at once (`written`).
use Prim.Native.Nat.{◌+◌}
use native.Mathlib.Omega.{arith}
use Rattle.header_offsets.proofs.Written.{written}
use Rattle.group.proofs.tally.put_row.Goals as goal

pub returns : goal.returns
returns c = written c.args.headers.now c.copy_from_slice.new.self _ c.args.at (c.args.at + 4) c.copy_from_slice.ensures.after (omega arith) c.requires
