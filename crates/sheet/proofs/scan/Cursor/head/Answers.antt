-- Four words are judged one by one; behind each, the tests that are left give the scan of the head.
use Rattle.std.proofs.Common.{refl, [], ◌∷◌, eqb, leb, rules}
use Rattle.semantics.specs.Sheet.{head_tests}
use Rattle.semantics.specs.Check.{Scan, scan_words}
use Rattle.sheet.proofs.Laws.{WordsLeft, left_stops, left_next}
use Rattle.sheet.proofs.scan.Cursor.head.Goals as goal

-- Before the first word all tests are left.
begins : (s : Scan) → WordsLeft 3 ((λ w. eqb w 1) ∷ (λ w. leb w 4096) ∷ (λ w. leb w 1024) ∷ (λ w. leb w 1024) ∷ []) s (scan_words 3 head_tests s)
unfolding head_tests
begins s = record { give = refl }

pub returns-in_default-clause-scan : goal.returns-in_default-clause-scan
returns-in_default-clause-scan c =
    left_stops (begins _) _ _ (c.word-form.ensures.scan (λ w. eqb w 1) (λ w passes few said. search rules)) _ c.unwrap_err.ensures

pub returns-in_default-records-clause-scan : goal.returns-in_default-records-clause-scan
returns-in_default-records-clause-scan c =
    let form = left_next (begins _) _ _ (c.word-form.ensures.scan (λ w. eqb w 1) (λ w passes few said. search rules)) _ c.in-Ok.is in
    left_stops form _ _ c.at_most-records.ensures.scan _ c.unwrap_err-in_default-records.ensures

pub returns-in_default-constraints-clause-scan : goal.returns-in_default-constraints-clause-scan
returns-in_default-constraints-clause-scan c =
    let form = left_next (begins _) _ _ (c.word-form.ensures.scan (λ w. eqb w 1) (λ w passes few said. search rules)) _ c.in-Ok.is in
    let records = left_next form _ _ c.at_most-records.ensures.scan _ c.in-Ok-records.is in
    left_stops records _ _ c.at_most-constraints.ensures.scan _ c.unwrap_err-in_default-constraints.ensures

pub returns-in_default-interactions-clause-scan : goal.returns-in_default-interactions-clause-scan
returns-in_default-interactions-clause-scan c =
    let form = left_next (begins _) _ _ (c.word-form.ensures.scan (λ w. eqb w 1) (λ w passes few said. search rules)) _ c.in-Ok.is in
    let records = left_next form _ _ c.at_most-records.ensures.scan _ c.in-Ok-records.is in
    let constraints = left_next records _ _ c.at_most-constraints.ensures.scan _ c.in-Ok-constraints.is in
    left_stops constraints _ _ c.at_most-interactions.ensures.scan _ c.unwrap_err-in_default-interactions.ensures

pub returns-clause-scan : goal.returns-clause-scan
unfolding scan_words
returns-clause-scan c =
    let form = left_next (begins _) _ _ (c.word-form.ensures.scan (λ w. eqb w 1) (λ w passes few said. search rules)) _ c.in-Ok.is in
    let records = left_next form _ _ c.at_most-records.ensures.scan _ c.in-Ok-records.is in
    let constraints = left_next records _ _ c.at_most-constraints.ensures.scan _ c.in-Ok-constraints.is in
    (left_next constraints _ _ c.at_most-interactions.ensures.scan _ c.in-Ok-interactions.is).give
