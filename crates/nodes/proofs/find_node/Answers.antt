use native.Mathlib.Omega.{arith}
use Rattle.semantics.proofs.Places.{place_below}
use Rattle.nodes.proofs.find_node.Goals as goal

pub same_record-requires : goal.same_record-requires
same_record-requires c = omega (arith, place_below 5 c.loop-i.i c.args.n)
