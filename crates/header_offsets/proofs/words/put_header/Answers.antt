-- The four words of a header are written at once (`part_written`).
use Prim.Native.Nat.{◌+◌}
use native.Mathlib.Omega.{arith}
use mathlib.Core.List.{[], ◌∷◌}
use Rattle.header_offsets.specs.Headers.{header_words}
use Rattle.header_offsets.proofs.Written.{part_written}
use Rattle.header_offsets.proofs.words.put_header.Goals as goal

pub returns : goal.returns
unfolding header_words
returns c = part_written c.args.words.now _ (header_words (c.args.header ∷ [])) c.args.at (c.args.at + 4) c.copy_from_slice.ensures.after (omega arith) c.requires
