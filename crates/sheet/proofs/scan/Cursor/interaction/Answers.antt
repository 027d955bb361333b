-- Four words are judged one by one, then as many references as the fourth says; behind each, the tests that are left give the scan of the
-- whole interaction.
use Rattle.std.proofs.Common.{ap, ◌∙◌, ℕ, replicate, rules, true}
use Rattle.semantics.specs.Sheet.{refers}
use Rattle.semantics.specs.Check.{scan_words}
use Rattle.sheet.specs.Readings.{from}
use Rattle.sheet.proofs.Laws.{fourth, interaction_left, left_stops, left_next}
use Rattle.sheet.proofs.scan.Cursor.interaction.Goals as goal

pub returns-in_default : goal.returns-in_default
returns-in_default c = left_stops (interaction_left c.args.self.now c.args.records) _ _ c.at_most-bus.ensures.scan _ c.unwrap_err.ensures

pub returns-in_default-weight : goal.returns-in_default-weight
returns-in_default-weight c =
    let bus = left_next (interaction_left c.args.self.now c.args.records) _ _ c.at_most-bus.ensures.scan _ c.in-Ok.is in
    left_stops bus _ _ (c.word-weight.ensures.scan (λ w. true) (λ w passes few said. search rules)) _ c.unwrap_err-in_default-weight.ensures

pub returns-in_default-count : goal.returns-in_default-count
returns-in_default-count c =
    let bus = left_next (interaction_left c.args.self.now c.args.records) _ _ c.at_most-bus.ensures.scan _ c.in-Ok.is in
    let weight = left_next bus _ _ (c.word-weight.ensures.scan (λ w. true) (λ w passes few said. search rules)) _ c.in-Ok-weight.is in
    left_stops weight _ _ c.name-count.ensures.scan _ c.unwrap_err-in_default-count.ensures

pub returns-in_default-length : goal.returns-in_default-length
returns-in_default-length c =
    let bus = left_next (interaction_left c.args.self.now c.args.records) _ _ c.at_most-bus.ensures.scan _ c.in-Ok.is in
    let weight = left_next bus _ _ (c.word-weight.ensures.scan (λ w. true) (λ w passes few said. search rules)) _ c.in-Ok-weight.is in
    let count = left_next weight _ _ c.name-count.ensures.scan _ c.in-Ok-count.is in
    left_stops count _ _ c.at_most-length.ensures.scan _ c.unwrap_err-in_default-length.ensures

pub returns : goal.returns
returns c =
    let bus = left_next (interaction_left c.args.self.now c.args.records) _ _ c.at_most-bus.ensures.scan _ c.in-Ok.is in
    let weight = left_next bus _ _ (c.word-weight.ensures.scan (λ w. true) (λ w passes few said. search rules)) _ c.in-Ok-weight.is in
    let count = left_next weight _ _ c.name-count.ensures.scan _ c.in-Ok-count.is in
    let length = left_next count _ _ c.at_most-length.ensures.scan _ c.in-Ok-length.is in
    let number = fourth c.in-Ok.ensures.word c.in-Ok-weight.ensures.word c.in-Ok-count.ensures.word c.in-Ok-length.ensures.word in
    c.references.ensures
    ∙ ap (λ (n : ℕ). scan_words 6 (replicate n (refers c.args.records)) (from c.at_most-length.new.self)) number
    ∙ length.give
