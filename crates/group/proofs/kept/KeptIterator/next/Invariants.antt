-- Monomials with the coefficient 0 are passed. The loop's invariant: those that are left stand in the pool, and their places are still to come.
use mathlib.Core.Path.{◌≡◌}
use Rattle.group.specs.Grouped.{kept_places, Standing}
use Rattle.group.proofs.kept.KeptIterator.next.Given as goal

abbrev pub invariant-loop-self : goal.invariant-loop-self
invariant-loop-self l =
    let s = l.self-inside in
    let t = l.initial.self-inside in
    (kept_places t.pool.now t.at t.count ≡ kept_places s.pool.now s.at s.count) × Standing s.count s.pool.now s.at

abbrev pub decreases-loop-self : goal.decreases-loop-self
decreases-loop-self l = l.self-inside.count
