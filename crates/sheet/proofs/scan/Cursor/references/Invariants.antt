-- The words are judged one by one. Kept: those that are left, from the next one on, give the scan of all.
use Rattle.std.proofs.Common.{◌-◌, replicate}
use Rattle.semantics.specs.Sheet.{refers}
use Rattle.semantics.specs.Check.{scan_words}
use Rattle.sheet.specs.Readings.{from}
use Rattle.sheet.proofs.Laws.{WordsLeft}
use Rattle.sheet.proofs.scan.Cursor.references.Given as goal

abbrev pub invariant-loop-k : goal.invariant-loop-k
invariant-loop-k l =
    WordsLeft 6 (replicate (l.count - l._k) (refers l.records)) (from l.self) (scan_words 6 (replicate l.count (refers l.records)) (from l.initial.self))
