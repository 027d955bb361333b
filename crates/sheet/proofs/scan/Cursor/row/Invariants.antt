-- The words of a row are judged one by one. Kept: the uses that are left, from the next word on, give the scan of the whole row.
use Rattle.std.proofs.Common.{map}
use Rattle.semantics.specs.Arithmetic.{prime}
use Rattle.semantics.specs.Sheet.{fits}
use Rattle.semantics.specs.Check.{scan_words}
use Rattle.sheet.specs.Readings.{from}
use Rattle.sheet.specs.Scans.{use_of}
use Rattle.sheet.proofs.Laws.{RowLeft}
use Rattle.sheet.proofs.scan.Cursor.row.Given as goal

abbrev pub invariant-loop-how : goal.invariant-loop-how
invariant-loop-how l =
    RowLeft 5 (fits prime l.own l.a) (map use_of l.how-items) l.how-index (from l.self)
    (scan_words 5 (map (fits prime l.own l.a) (map use_of l.how-items)) (from l.initial.self))
