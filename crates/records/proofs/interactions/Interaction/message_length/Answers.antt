-- The fourth word is the length of the message.
use Rattle.records.proofs.Standing.{length_read}
use Rattle.records.proofs.interactions.Interaction.message_length.Goals as goal

pub returns : goal.returns
returns c =
    let x = c.args.self.now in
    length_read x.words.now x.whole
