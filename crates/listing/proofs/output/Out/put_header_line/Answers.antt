-- The letter, the variables and the end of the line are written one behind the other; for each there is room in what is left of the line.
use mathlib.Core.Path.{refl}
use mathlib.Core.List.{[], ◌∷◌}
use Rattle.listing.proofs.Writing.{room_front, room_next, puts_next}
use Rattle.listing.proofs.Pieces.{header_pieces}
use Rattle.listing.proofs.output.Out.put_header_line.Goals as goal

pub put_byte-requires : goal.put_byte-requires
put_byte-requires c = room_front c.args.self.now (c.args.letter ∷ []) _ (header_pieces c.args.letter c.args.variables.now) c.requires

pub put_variables-requires : goal.put_variables-requires
put_variables-requires c =
    let left-1 = room_next c.put_byte.ensures _ (header_pieces c.args.letter c.args.variables.now) c.requires in
    room_front c.put_byte.new.self _ _ refl left-1

pub put_byte-requires-2 : goal.put_byte-requires-2
put_byte-requires-2 c =
    let left-1 = room_next c.put_byte.ensures _ (header_pieces c.args.letter c.args.variables.now) c.requires in
    room_next c.put_variables.ensures _ refl left-1

pub returns : goal.returns
returns c =
    let left-1 = room_next c.put_byte.ensures _ (header_pieces c.args.letter c.args.variables.now) c.requires in
    puts_next c.put_byte.ensures _ (header_pieces c.args.letter c.args.variables.now) c.requires (puts_next c.put_variables.ensures _ refl left-1 c.put_byte-2.ensures)
