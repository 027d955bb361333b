-- Four stores, one behind the other; the fourth word is the length of the message.
use Rattle.records.proofs.Standing.{length_read}
use Rattle.records.proofs.Writing.{front_put}
use Rattle.records.proofs.interactions.Interaction.write_front.Goals as goal

pub returns : goal.returns
returns c =
    let x = c.args.self.now in
    front_put c.args.out.now c.args.to c.requires c.bus.ensures c.weight.ensures c.args.count (length_read x.words.now x.whole)
