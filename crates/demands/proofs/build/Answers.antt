-- The contract of the builder, and what it gives by the law of the demand.
use Rattle.demands.proofs.Demands.{build_demand}
use Rattle.demands.proofs.build.Goals as goal

pub returns : goal.returns
returns c = record {
  outcome = c.build-built.ensures;
  demand = build_demand _ _ _ c.build-built.result _ _ c.build-built.ensures;
}
