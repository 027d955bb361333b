use native.Mathlib.Omega.{arith}
use Rattle.grouping.proofs.RootItems.{roots_none, named_done, named_ready, named_more}
use Rattle.grouping.proofs.families.place_references.Goals as goal

pub loop-j-init : goal.loop-j-init
loop-j-init c = record { left = roots_none c.requires.1 }

pub place_root-requires : goal.place_root-requires
place_root-requires c = named_ready c.loop-j.invariant (omega arith) c.label-label.ensures

pub loop-j-preserved : goal.loop-j-preserved
loop-j-preserved c =
    named_more c.loop-j.invariant (omega arith) c.label-label.ensures c.place_root.ensures

pub returns : goal.returns
returns c = named_done c.loop-j.invariant (omega arith)
