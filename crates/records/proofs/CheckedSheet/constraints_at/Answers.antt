-- The constraints start where the records end.
use mathlib.Core.Path.{ap, ◌∙◌}
use native.Mathlib.Omega.{arith}
use Rattle.semantics.specs.Sheet.{place}
use Rattle.records.proofs.Reading.{places_small}
use Rattle.records.proofs.CheckedSheet.constraints_at.Goals as goal

pub records_end-requires : goal.records_end-requires
records_end-requires c = omega (arith, ap (place 5) c.num_records.ensures, (places_small c.args.self.words.now c.args.self.checked).0)

pub returns : goal.returns
returns c = c.records_end.ensures ∙ ap (place 5) c.num_records.ensures
