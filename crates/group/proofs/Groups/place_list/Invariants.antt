-- The term of each monomial of the list that is kept is placed. The loop's invariant, `Listing`: the items of the monomials passed are placed;
-- `listing_step` keeps it, and at the end all items are placed (`listing_done`).
use Rattle.group.proofs.Placements.{Listing}
use Rattle.group.proofs.Groups.place_list.Given as goal

abbrev pub invariant-loop-at : goal.invariant-loop-at
invariant-loop-at l = Listing l.label l.fn.list l.initial.self l.initial.terms l.self l.terms l.at-iterator
