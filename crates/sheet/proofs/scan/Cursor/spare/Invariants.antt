-- The words are judged one by one. Kept: how many are left, and that these, with the room that is left for spare ones, give the scan of all.
use Rattle.std.proofs.Common.{◌≡◌, ◌+◌, length}
use Rattle.semantics.specs.Check.{scan_spare}
use Rattle.sheet.specs.Readings.{from}
use Rattle.sheet.proofs.Laws.{SpareLeft}
use Rattle.sheet.proofs.scan.Cursor.spare.Given as goal

abbrev pub invariant-loop-k : goal.invariant-loop-k
invariant-loop-k l =
    SpareLeft l.k-counter l.self (scan_spare 126 (from l.initial.self)) × (length l.self.words + l.k-counter ≡ length l.initial.self.words)
