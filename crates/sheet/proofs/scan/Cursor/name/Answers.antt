-- One word, below the number of records.
use Rattle.std.proofs.Common.{rules}
use Rattle.semantics.specs.Sheet.{refers}
use Rattle.sheet.proofs.scan.Cursor.name.Goals as goal

pub returns-clause-scan : goal.returns-clause-scan
unfolding refers
returns-clause-scan c = c.word.ensures.scan (refers c.args.records) (λ w passes few said. search rules)
