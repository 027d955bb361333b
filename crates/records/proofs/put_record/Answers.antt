-- Five words are written one behind the other, from the record's place on.
use mathlib.Core.Path.{ap, ◌∙◌}
use mathlib.Core.List.{[], ◌∷◌}
use Prim.Native.Nat.{ℕ}
use lib.Seq.{sets}
use Rattle.slices.proofs.Puts.{stores_run}
use Rattle.semantics.specs.Sheet.{record_words}
use Rattle.records.specs.Access.{five_words}
use Rattle.records.proofs.put_record.Goals as goal

pub returns : goal.returns
unfolding record_words
returns c =
    let a = c.args in
    stores_run a.out.now _ a.q.kind (a.q.a ∷ a.q.b ∷ a.q.c ∷ a.q.d ∷ [])
    ∙ ap (λ (n : ℕ). sets a.out.now n (record_words (five_words a.q))) c.records_end-at.ensures
