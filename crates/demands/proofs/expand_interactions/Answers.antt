-- The contract of the interaction call, and what it gives by the law of the demand.
use Rattle.demands.proofs.Demands.{interactions_demand}
use Rattle.demands.proofs.expand_interactions.Goals as goal

pub returns : goal.returns
returns c = record {
  outcome = c.expand_interactions-lists.ensures;
  demand = interactions_demand _ _ _ _ _ _ _ _ _ _ c.expand_interactions-lists.ensures;
}
