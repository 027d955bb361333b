-- The interactions are parts, each with the same tests.
use Rattle.std.proofs.Common.{rules}
use Rattle.semantics.specs.Sheet.{interaction_tests}
use Rattle.sheet.proofs.scan.Cursor.interactions.Goals as goal

pub returns : goal.returns
returns c = c.parts.ensures 6 (λ own. interaction_tests c.args.records) (λ old new own r few said. search rules)
