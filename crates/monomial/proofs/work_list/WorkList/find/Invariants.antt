-- The search halves the monomials that are left. The loop's invariant: those below `low` stand before the variables, kept by `found_greater`; those
-- from `high` on stand behind them, kept by `found_less`.
use Prim.Native.Nat.{◌-◌, ◌≤◌}
use lib.ListN.{length}
use Rattle.monomial.specs.Places.{FirstBefore, RestAfter}
use Rattle.monomial.proofs.Searches.{sought}
use Rattle.monomial.proofs.work_list.WorkList.find.Given as goal

abbrev pub invariant-loop-low : goal.invariant-loop-low
invariant-loop-low l =
    (l.low ≤ l.high) × (l.high ≤ length l.self) × FirstBefore (sought l.mine) l.self l.low × RestAfter (sought l.mine) l.self l.high

abbrev pub decreases-loop-low : goal.decreases-loop-low
decreases-loop-low l = l.high - l.low
