-- The contract of the constraint call, and what it gives by the law of the demand.
use Rattle.demands.proofs.Demands.{constraints_demand}
use Rattle.demands.proofs.expand_constraints.Goals as goal

pub returns : goal.returns
returns c = record {
  outcome = c.expand_constraints-lists.ensures;
  demand = constraints_demand _ _ _ _ _ _ _ c.expand_constraints-lists.ensures;
}
