-- A refusal of the interaction call, or numerators, denominators and the last line, put one behind the other: each is what the interactions print.
use mathlib.Core.Path.{refl}
use Rattle.listing.proofs.Writing.{room_is, puts_is, done_none, done_room, done_more, last_room, done_last}
use Rattle.sheet_listing.proofs.Expanded.{interactions_refused, interactions_written}
use Rattle.sheet_listing.proofs.put_interactions.Goals as goal

pub put_refused-requires : goal.put_refused-requires
put_refused-requires c =
    room_is c.args.out.now
    (interactions_refused c.args.graph.now _ _ _ _ _ _ _ _ _ c.expand_interactions-lists.ensures _ c.unwrap_err.ensures) c.requires

pub returns-in_default : goal.returns-in_default
returns-in_default c =
    puts_is c.put_refused.ensures
    (interactions_refused c.args.graph.now _ _ _ _ _ _ _ _ _ c.expand_interactions-lists.ensures _ c.unwrap_err.ensures)

pub put_lists-requires : goal.put_lists-requires
put_lists-requires c =
    let written = interactions_written c.args.graph.now _ _ _ _ _ _ _ _ _ c.expand_interactions-lists.ensures _ c.in-Ok.is in
    (written.0, done_room (done_none c.args.out.now written.2 c.requires) _ _ refl)

pub put_lists-requires-2 : goal.put_lists-requires-2
put_lists-requires-2 c =
    let written = interactions_written c.args.graph.now _ _ _ _ _ _ _ _ _ c.expand_interactions-lists.ensures _ c.in-Ok.is in
    (written.1, done_room (done_more (done_none c.args.out.now written.2 c.requires) _ _ refl c.put_lists.ensures) _ _ refl)

pub put_end-requires : goal.put_end-requires
put_end-requires c =
    let written = interactions_written c.args.graph.now _ _ _ _ _ _ _ _ _ c.expand_interactions-lists.ensures _ c.in-Ok.is in
    let counts-put = done_more (done_none c.args.out.now written.2 c.requires) _ _ refl c.put_lists.ensures in
    last_room (done_more counts-put _ _ refl c.put_lists-2.ensures)

pub returns : goal.returns
returns c =
    let written = interactions_written c.args.graph.now _ _ _ _ _ _ _ _ _ c.expand_interactions-lists.ensures _ c.in-Ok.is in
    let counts-put = done_more (done_none c.args.out.now written.2 c.requires) _ _ refl c.put_lists.ensures in
    done_last (done_more counts-put _ _ refl c.put_lists-2.ensures) c.put_end.ensures
