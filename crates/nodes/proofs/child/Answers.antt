-- The record that stands there, as the node that it is.
use mathlib.Core.Path.{refl, ap, subst, ◌∙◌}
use Rattle.semantics.specs.Value.{node_of}
use Rattle.records.specs.Nodes.{as_record, CarriesLeaf}
use Rattle.nodes.proofs.child.Goals as goal

pub returns : goal.returns
returns c = (
  refl,
  c.node.ensures.0 ∙ ap node_of c.record_at.ensures,
  subst (CarriesLeaf c.node.result) (ap as_record c.record_at.ensures) c.node.ensures.1,
)
