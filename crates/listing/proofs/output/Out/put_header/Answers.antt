-- The header's four words are read; its line is written, and behind it the lines of its terms.
use Rattle.listing.proofs.Writing.{room_front, room_next, puts_next}
use Rattle.listing.proofs.Heads.{header_joins}
use Rattle.listing.proofs.output.Out.put_header.Goals as goal

pub put_header_line-requires : goal.put_header_line-requires
put_header_line-requires c =
    let a = c.args in
    room_front a.self.now _ _ (header_joins a.family a.lists.variables.now a.lists.terms.now a.header.now c.requires.1 c.letter.ensures c.width-step.ensures) c.requires.2

pub put_terms-requires : goal.put_terms-requires
put_terms-requires c =
    let a = c.args in
    room_next c.put_header_line.ensures _ (header_joins a.family a.lists.variables.now a.lists.terms.now a.header.now c.requires.1 c.letter.ensures c.width-step.ensures) c.requires.2

pub returns : goal.returns
returns c =
    let a = c.args in
    puts_next c.put_header_line.ensures _ (header_joins a.family a.lists.variables.now a.lists.terms.now a.header.now c.requires.1 c.letter.ensures c.width-step.ensures)
    c.requires.2 c.put_terms.ensures
