-- The record's two words say where its list stands: `list_fits_at`, `stored_list`.
use mathlib.Core.Path.{◌∙◌}
use Prim.Native.Nat.{◌+◌, ◌*◌}
use lib.ListN.{get_or}
use Rattle.monomial.proofs.ListLaws.{list_fits_at, stored_list}
use Rattle.monomial.proofs.reading.Monomials.of_record.Goals as goal

pub new-requires : goal.new-requires
new-requires c =
    let pool = c.args.pool.now in
    let r = c.args.r in
    let (l, s) = c.requires in
    (list_fits_at pool (get_or pool (2 * r) 0) (get_or pool (2 * r + 1) 0) l s.words_are s.count_is s.inside s.fit).0

pub returns : goal.returns
returns c = λ l s. c.new.ensures ∙ stored_list c.args.pool.now c.args.r l s
