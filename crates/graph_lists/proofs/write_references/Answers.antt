use mathlib.Core.Path.{◌∙◌}
use native.Mathlib.Omega.{arith}
use lib.ListN.{length-set}
use Rattle.graph_lists.proofs.Naming.{number_asks, naming_more}
use Rattle.graph_lists.proofs.write_references.Goals as goal

pub node_number-requires : goal.node_number-requires
node_number-requires c = number_asks c.requires.0 (omega arith)

pub loop-j-preserved : goal.loop-j-preserved
loop-j-preserved c =
    let loop = c.loop-j in
    let p = c.requires in
    let a = c.args in (
      omega arith,
      length-set loop.out _ _ ∙ loop.invariant.1,
      naming_more p.0 (omega arith) a.out.now a.to p.1 loop.invariant.2 c.node_number.ensures,
    )
