-- Both are filled with zeros, at their lengths.
use mathlib.Core.Path.{refl}
use Rattle.semantics.specs.Call.{zeros}
use Rattle.constraint_lists.proofs.Scratch.clear.Goals as goal

pub returns : goal.returns
unfolding zeros
returns c = record {
  same = record { work = refl; pool = refl; work_long = c.fill.ensures.len; pool_long = c.fill-2.ensures.len };
  work = c.fill.ensures.after (λ y e. e);
  pool = c.fill-2.ensures.after (λ y e. e);
}
