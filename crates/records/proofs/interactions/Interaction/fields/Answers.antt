-- The words behind the first four are the message.
use mathlib.Core.Path.{◌∙◌}
use Rattle.std.proofs.lemmas.List.{take_rest}
use Rattle.records.proofs.Standing.{fields_read}
use Rattle.records.proofs.interactions.Interaction.fields.Goals as goal

pub returns : goal.returns
returns c =
    let x = c.args.self.now in
    take_rest x.words.now 4 ∙ fields_read x.words.now x.whole
