-- The records are parts, each judged by its number.
use Rattle.std.proofs.Common.{rules}
use Rattle.semantics.specs.Arithmetic.{prime}
use Rattle.semantics.specs.Sheet.{record_tests}
use Rattle.sheet.proofs.scan.Cursor.records.Goals as goal

pub returns : goal.returns
returns c = c.parts.ensures 5 (record_tests prime) (λ old new own r few said. search rules)
