-- The text of the last line is written.
use Rattle.listing.proofs.Writing.{room_is, puts_is}
use Rattle.listing.proofs.Pieces.{end_pieces}
use Rattle.listing.proofs.output.Out.put_end.Goals as goal

pub put_text-requires : goal.put_text-requires
put_text-requires c = room_is c.args.self.now end_pieces c.requires

pub returns : goal.returns
returns c = puts_is c.put_text.ensures end_pieces
