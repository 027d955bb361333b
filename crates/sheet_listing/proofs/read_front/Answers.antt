use Rattle.std.proofs.Common.{rules, subst}
use Rattle.std.specs.Io.KnownBytes.{Consumes}
use Rattle.std.proofs.KnownBytes.{Consumes-trans}
use Rattle.sheet_listing.proofs.Reading.{joined}
use Rattle.sheet_listing.proofs.read_front.Goals as goal

pub loop-n-preserved : goal.loop-n-preserved
loop-n-preserved g c = (
  search rules,
  subst (Consumes _ _) (joined c.loop-n.n c.in_ok-more.more c.loop-n.buffer c.read.new.buf c.loop-n.invariant.0 c.in_ok-more.ensures.bound.0)
      (Consumes-trans _ _ _ _ _ c.loop-n.invariant.1 c.in_ok-more.ensures.bytes.0),
)
