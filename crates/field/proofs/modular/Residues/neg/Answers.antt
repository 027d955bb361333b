-- The word is brought below p first. Zero is its own negative.
use Rattle.field.proofs.Laws.{neg_none, neg_some}
use Rattle.field.proofs.modular.Residues.neg.Goals as goal

pub returns-then-less-eq0 : goal.returns-then-less-eq0
returns-then-less-eq0 c =
    neg_none c.args.self.p c.args.a c.args.self.modulus c.reduced-less.ensures c.if-less-eq0.true

pub returns-else-less-eq0 : goal.returns-else-less-eq0
returns-else-less-eq0 c =
    neg_some c.args.self.p c.args.a c.args.self.modulus c.reduced-less.ensures c.if-less-eq0.false
