-- "dag", the three numbers and the end of the line are written one behind the other; for each there is room in what is left of the line.
use mathlib.Core.Path.{refl}
use Rattle.semantics.specs.Sheetlist.{dag_text}
use Rattle.listing.proofs.Writing.{room_front, room_next, puts_next}
use Rattle.listing.proofs.Pieces.{dag_pieces}
use Rattle.listing.proofs.output.Out.put_dag_line.Goals as goal

pub put_text-requires : goal.put_text-requires
put_text-requires c = room_front c.args.self.now dag_text _ (dag_pieces c.args.nodes c.args.constraints c.args.rotation) c.requires

pub put_numbers-requires : goal.put_numbers-requires
put_numbers-requires c =
    let left-1 = room_next c.put_text.ensures _ (dag_pieces c.args.nodes c.args.constraints c.args.rotation) c.requires in
    room_front c.put_text.new.self _ _ refl left-1

pub put_byte-requires : goal.put_byte-requires
put_byte-requires c =
    let left-1 = room_next c.put_text.ensures _ (dag_pieces c.args.nodes c.args.constraints c.args.rotation) c.requires in
    room_next c.put_numbers.ensures _ refl left-1

pub returns : goal.returns
returns c =
    let left-1 = room_next c.put_text.ensures _ (dag_pieces c.args.nodes c.args.constraints c.args.rotation) c.requires in
    puts_next c.put_text.ensures _ (dag_pieces c.args.nodes c.args.constraints c.args.rotation) c.requires (puts_next c.put_numbers.ensures _ refl left-1 c.put_byte.ensures)
