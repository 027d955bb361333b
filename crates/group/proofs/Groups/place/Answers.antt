-- The row of the monomial's variables is looked for: room for the term says that there is one (`room_found`). The term is put at the row's cursor,
-- and the cursor goes on by one, which is one item placed (`place_one`).
use mathlib.Core.Path.{refl, sym, ap, subst, ◌∙◌}
use Prim.Native.Nat.{◌+◌, ◌*◌}
use borrow.Author.Rules.{rules}
use lib.ListN.{get_or, set, length-set}
use lib.Seq.{sets}
use Rattle.std.specs.Prelude.{Err}
use Rattle.group.specs.Grouped.{Spot, monomial_in, term_width, form_at, words_at, item_at}
use Rattle.group.specs.Groups.{tallies}
use Rattle.group.proofs.PoolLists.{read_coef}
use Rattle.group.proofs.Placements.{room_found, cursor_small, term_fits, cursor_kept, place_one, label_words}
use Rattle.group.proofs.Groups.place.Goals as goal

pub unreachable-requires : goal.unreachable-requires
unreachable-requires c =
    let g = c.args.self.now in
    let m = c.requires.0 in
    let t = item_at c.args.label (monomial_in g.pool.now c.args.at) in
    let k = c.in_default.field-0 in
    let s = subst (Spot t.vars (tallies g)) c.in_default.is c.find_near.ensures in
    room_found m.gs m.done t k m.room (subst (λ l. Spot t.vars l (Err k)) m.placing.tallies_are s)

pub put-requires : goal.put-requires
put-requires c =
    let t = item_at c.args.label (monomial_in c.args.self.now.pool.now c.args.at) in
    term_fits c.requires.0.placing t c.in-Ok.k c.requires.0.room c.in-Ok.ensures

pub overflow_add-self : goal.overflow_add-self
overflow_add-self c =
    let t = item_at c.args.label (monomial_in c.args.self.now.pool.now c.args.at) in
    let x = cursor_small c.requires.0.placing t c.in-Ok.k c.requires.0.room c.in-Ok.ensures in
    let z = c.requires.0.placing.small in
    search rules

pub invariant_of-self : goal.invariant_of-self
invariant_of-self c =
    let t = item_at c.args.label (monomial_in c.args.self.now.pool.now c.args.at) in
    record { rows = cursor_kept c.requires.0.placing t c.in-Ok.k c.requires.0.room c.in-Ok.ensures _ }

pub returns-clause-placed : goal.returns-clause-placed
returns-clause-placed c =
    let g = c.args.self.now in
    let T = c.args.terms.now in
    let l = c.args.label in
    let t = item_at l (monomial_in g.pool.now c.args.at) in
    let cursor = get_or g.headers.now (4 * c.in-Ok.k + 1) 0 in
    let e = ap (words_at l) (sym (read_coef g.pool.now c.args.at)) ∙ label_words l (monomial_in g.pool.now c.args.at) in
    let terms_are = c.put.ensures ∙ ap (sets T (term_width (form_at l) * cursor)) e in
    record {
      same = record { slice = refl; long = length-set g.headers.now (4 * c.in-Ok.k + 1) _; pool = refl };
      rows = refl;
      places = λ gs done x y. place_one x t c.in-Ok.k y c.in-Ok.ensures (set g.headers.now (4 * c.in-Ok.k + 1) (cursor + 1)) c.put.new.terms terms_are refl;
    }

pub returns-clause-row : goal.returns-clause-row
returns-clause-row c = c.in-Ok.ensures
