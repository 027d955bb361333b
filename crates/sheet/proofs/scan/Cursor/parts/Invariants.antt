-- The parts are judged one by one. Kept: those that are left, from the next word on, give the scan of all.
use Rattle.std.proofs.Common.{ℕ, Bool, List}
use Rattle.semantics.specs.Check.{scan_parts}
use Rattle.sheet.specs.Readings.{from}
use Rattle.sheet.specs.Scans.{Judges}
use Rattle.sheet.proofs.Laws.{PartsLeft}
use Rattle.sheet.proofs.scan.Cursor.parts.Given as goal

abbrev pub invariant-loop-own : goal.invariant-loop-own
invariant-loop-own g l =
    (n : ℕ) (tests : ℕ → List ℕ → List (ℕ → Bool)) → Judges n tests l.count (goal.F-post g l.check)
    → PartsLeft n tests l.count l.own (from l.self) (scan_parts n tests l.count 0 (from l.initial.self))
