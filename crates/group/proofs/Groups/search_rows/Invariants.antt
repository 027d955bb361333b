-- The search halves the rows that are left. The loop's invariant, `Between`: those below `low` stand before the variables, those from `high` on behind
-- them; the row in the middle keeps it by `row_before` or `row_after`, or is the one that is looked for (`row_same`).
use Prim.Native.Nat.{◌-◌}
use Rattle.group.specs.Grouped.{Between}
use Rattle.group.specs.Groups.{tallies}
use Rattle.group.specs.Waiting.{pool_vars}
use Rattle.group.proofs.Groups.search_rows.Given as goal

abbrev pub invariant-loop-low : goal.invariant-loop-low
invariant-loop-low l = Between (pool_vars l.self.pool.now l.at) (tallies l.self) l.low l.high

abbrev pub decreases-loop-low : goal.decreases-loop-low
decreases-loop-low l = l.high - l.low
