-- Rows are looked at in steps that double. The loop's invariant: the rows below `low` stand before the variables (`Between`). A row that stands before
-- them keeps it (`row_after`); one behind them ends the loop (`row_before`), and the rows that are left are searched by halves.
use Prim.Native.Nat.{◌-◌}
use Rattle.group.specs.Grouped.{Between}
use Rattle.group.specs.Groups.{tallies}
use Rattle.group.specs.Waiting.{pool_vars}
use Rattle.group.proofs.Groups.search_on.Given as goal

abbrev pub invariant-loop-step : goal.invariant-loop-step
invariant-loop-step l = Between (pool_vars l.self.pool.now l.at) (tallies l.self) l.low l.self.n

abbrev pub decreases-loop-step : goal.decreases-loop-step
decreases-loop-step l = l.self.n - l.low
