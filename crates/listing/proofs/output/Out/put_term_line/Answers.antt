-- The letter, the numbers, a space, the coefficient and the end of the line are written one behind the other; for each there is room in what is left of the line.
use mathlib.Core.Path.{refl}
use mathlib.Core.List.{[], ◌∷◌}
use Rattle.listing.proofs.Writing.{room_front, room_next, puts_next}
use Rattle.listing.proofs.Pieces.{term_pieces}
use Rattle.listing.proofs.output.Out.put_term_line.Goals as goal

pub put_byte-requires : goal.put_byte-requires
put_byte-requires c = room_front c.args.self.now (c.args.letter ∷ []) _ (term_pieces c.args.letter c.args.numbers.now c.args.coefficient) c.requires

pub put_numbers-requires : goal.put_numbers-requires
put_numbers-requires c =
    let left-1 = room_next c.put_byte.ensures _ (term_pieces c.args.letter c.args.numbers.now c.args.coefficient) c.requires in
    room_front c.put_byte.new.self _ _ refl left-1

pub put_byte-requires-2 : goal.put_byte-requires-2
put_byte-requires-2 c =
    let left-1 = room_next c.put_byte.ensures _ (term_pieces c.args.letter c.args.numbers.now c.args.coefficient) c.requires in
    let left-2 = room_next c.put_numbers.ensures _ refl left-1 in
    room_front c.put_numbers.new.self (32 ∷ []) _ refl left-2

pub put_signed-requires : goal.put_signed-requires
put_signed-requires c =
    let left-1 = room_next c.put_byte.ensures _ (term_pieces c.args.letter c.args.numbers.now c.args.coefficient) c.requires in
    let left-2 = room_next c.put_numbers.ensures _ refl left-1 in
    let left-3 = room_next c.put_byte-2.ensures _ refl left-2 in
    room_front c.put_byte-2.new.self _ _ refl left-3

pub put_byte-requires-3 : goal.put_byte-requires-3
put_byte-requires-3 c =
    let left-1 = room_next c.put_byte.ensures _ (term_pieces c.args.letter c.args.numbers.now c.args.coefficient) c.requires in
    let left-2 = room_next c.put_numbers.ensures _ refl left-1 in
    let left-3 = room_next c.put_byte-2.ensures _ refl left-2 in
    room_next c.put_signed.ensures _ refl left-3

pub returns : goal.returns
returns c =
    let left-1 = room_next c.put_byte.ensures _ (term_pieces c.args.letter c.args.numbers.now c.args.coefficient) c.requires in
    let left-2 = room_next c.put_numbers.ensures _ refl left-1 in
    let left-3 = room_next c.put_byte-2.ensures _ refl left-2 in
    puts_next c.put_byte.ensures _ (term_pieces c.args.letter c.args.numbers.now c.args.coefficient) c.requires
    (puts_next c.put_numbers.ensures _ refl left-1
    (puts_next c.put_byte-2.ensures _ refl left-2 (puts_next c.put_signed.ensures _ refl left-3 c.put_byte-3.ensures)))
