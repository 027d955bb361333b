-- A refusal of the constraint call, or its headers and behind them what the interactions print: each is what the constraints print.
use Rattle.listing.proofs.Writing.{room_is, room_front, room_next, puts_is, puts_next}
use Rattle.sheet_listing.proofs.Expanded.{constraints_refused, constraints_written}
use Rattle.sheet_listing.proofs.put_constraints.Goals as goal

pub put_refused-requires : goal.put_refused-requires
put_refused-requires c =
    room_is c.args.out.now
    (constraints_refused c.args.graph.now _ _ _ _ _ _ c.expand_constraints-lists.ensures _ c.unwrap_err.ensures) c.requires

pub returns-in_default : goal.returns-in_default
returns-in_default c =
    puts_is c.put_refused.ensures
    (constraints_refused c.args.graph.now _ _ _ _ _ _ c.expand_constraints-lists.ensures _ c.unwrap_err.ensures)

pub put_lists-requires : goal.put_lists-requires
put_lists-requires c =
    let written = constraints_written c.args.graph.now _ _ _ _ _ _ c.expand_constraints-lists.ensures _ c.in-Ok.is in
    (written.0, room_front c.args.out.now _ _ written.1 c.requires)

pub put_interactions-requires : goal.put_interactions-requires
put_interactions-requires c =
    let written = constraints_written c.args.graph.now _ _ _ _ _ _ c.expand_constraints-lists.ensures _ c.in-Ok.is in
    room_next c.put_lists.ensures _ written.1 c.requires

pub returns : goal.returns
returns c =
    let written = constraints_written c.args.graph.now _ _ _ _ _ _ c.expand_constraints-lists.ensures _ c.in-Ok.is in
    puts_next c.put_lists.ensures _ written.1 c.requires c.put_interactions.ensures
