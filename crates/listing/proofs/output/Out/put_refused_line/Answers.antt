-- "refused ", the step, the two numbers and the end of the line are written one behind the other; for each there is room in what is left of the line.
use Rattle.std.proofs.Common.{refl, [], ◌∷◌, ◌++◌}
use Rattle.semantics.specs.Sheetlist.{refused_text}
use Rattle.listing.proofs.Writing.{room_front, room_next, puts_next}
use Rattle.listing.proofs.Pieces.{refused_pieces}
use Rattle.listing.proofs.output.Out.put_refused_line.Goals as goal

pub put_text-requires : goal.put_text-requires
put_text-requires c =
    room_front c.args.self.now (refused_text ++ (32 ∷ [])) _ (refused_pieces c.args.step.now c.args.number c.args.place) c.requires

pub put_text-requires-2 : goal.put_text-requires-2
put_text-requires-2 c =
    let left-1 = room_next c.put_text.ensures _ (refused_pieces c.args.step.now c.args.number c.args.place) c.requires in
    room_front c.put_text.new.self _ _ refl left-1

pub put_numbers-requires : goal.put_numbers-requires
put_numbers-requires c =
    let left-1 = room_next c.put_text.ensures _ (refused_pieces c.args.step.now c.args.number c.args.place) c.requires in
    let left-2 = room_next c.put_text-2.ensures _ refl left-1 in
    room_front c.put_text-2.new.self _ _ refl left-2

pub put_byte-requires : goal.put_byte-requires
put_byte-requires c =
    let left-1 = room_next c.put_text.ensures _ (refused_pieces c.args.step.now c.args.number c.args.place) c.requires in
    let left-2 = room_next c.put_text-2.ensures _ refl left-1 in
    room_next c.put_numbers.ensures _ refl left-2

pub returns : goal.returns
returns c =
    let is = refused_pieces c.args.step.now c.args.number c.args.place in
    let left-1 = room_next c.put_text.ensures _ is c.requires in
    let left-2 = room_next c.put_text-2.ensures _ refl left-1 in
    puts_next c.put_text.ensures _ is c.requires (puts_next c.put_text-2.ensures _ refl left-1 (puts_next c.put_numbers.ensures _ refl left-2 c.put_byte.ensures))
