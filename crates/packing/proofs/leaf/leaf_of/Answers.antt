-- 1 is a variable, 2 to 4 are marks, and every other kind is refused.
use mathlib.Core.Path.{ap, ◌∙◌}
use borrow.Author.Rules.{rules}
use Rattle.packing.specs.Leaves.{leaf_answer}
use Rattle.packing.proofs.Laws.{kind_wrong}
use Rattle.packing.proofs.leaf.leaf_of.Goals as goal

pub returns-in_default : goal.returns-in_default
returns-in_default c =
    let q = c.args.q in
    ap leaf_answer c.wrong.ensures ∙ kind_wrong q.kind q.a q.b q.c q.d (search rules)
