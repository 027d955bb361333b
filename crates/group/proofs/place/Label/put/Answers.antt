-- The words of a term are written at once (`written`): two under the label of a constraint, three under that of an interaction.
use mathlib.Core.Path.{◌≡◌, sym, subst}
use Prim.Native.Nat.{◌+◌, ◌-◌, ◌*◌, ◌≤◌}
use native.Mathlib.Omega.{arith}
use lib.ListN.{length}
use lib.Seq.{sets}
use borrow.Rule.Slice.PartMut.{put_mid}
use Rattle.group.specs.declared.place.Label.{Label}
use Rattle.group.specs.Grouped.{term_width, form_at, words_at}
use Rattle.header_offsets.proofs.Written.{written}
use Rattle.group.proofs.place.Label.put.Goals as goal

pub returns-in-Interaction : goal.returns-in-Interaction
returns-in-Interaction c =
    let a = c.args in
    let k = c.in-Interaction in
    let h = subst (λ (l : Label). term_width (form_at l) * a.at + term_width (form_at l) ≤ length a.terms.now) k.is c.requires in
    let u = c.copy_from_slice-in-Interaction in
    subst (λ (l : Label). put_mid (3 * a.at) (3 * a.at + 3 - 3 * a.at) a.terms.now u.new.self ≡ sets a.terms.now (term_width (form_at l) * a.at) (words_at l a.coef))
    (sym k.is) (written a.terms.now u.new.self _ (3 * a.at) (3 * a.at + 3) u.ensures.after (omega arith) h)
