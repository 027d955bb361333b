-- No word is left, or the first of those that are left is judged.
use Rattle.std.proofs.Common.{arith, ◌∙◌, sym}
use Rattle.sheet.proofs.Laws.{word_none, word_fails, word_passes}
use Rattle.sheet.proofs.scan.Cursor.word.Goals as goal

pub returns-in_default-clause-scan : goal.returns-in_default-clause-scan
returns-in_default-clause-scan g c t says =
    rw (← c.self.view_is) (word_none _ t c.self.inside.at _ c.in_default.ensures.cases)

pub returns-then-not-test-clause-scan : goal.returns-then-not-test-clause-scan
returns-then-not-test-clause-scan g c t says =
    let passes = says c.in-Some.word.now c.test.result (omega arith) c.test.ensures in
    rw (← c.self.view_is) (word_fails _ t c.self.inside.at _ c.in-Some.ensures.cases.0 (sym passes ∙ c.if-not-test.true))

pub returns-clause-scan : goal.returns-clause-scan
returns-clause-scan g c t says =
    let passes = says c.in-Some.word.now c.test.result (omega arith) c.test.ensures in
    rw (← c.self.view_is) (word_passes _ t c.self.inside.at _ c.in-Some.ensures.cases.0 (sym passes ∙ c.if-not-test.false))
