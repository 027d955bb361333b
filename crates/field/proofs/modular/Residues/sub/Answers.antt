-- Both words are brought below p first. The difference of two values is taken where it stands, or with p added to it.
use Rattle.field.proofs.Laws.{sub_low, sub_high}
use Rattle.field.proofs.modular.Residues.sub.Goals as goal

pub returns-then-right-left : goal.returns-then-right-left
returns-then-right-left c =
    sub_low c.args.self.p c.args.a c.args.self.modulus c.reduced-left.ensures c.args.b c.reduced-right.ensures c.if-right-left.true

pub returns-else-right-left : goal.returns-else-right-left
returns-else-right-left c =
    sub_high c.args.self.p c.args.a c.args.self.modulus c.reduced-left.ensures c.args.b c.reduced-right.ensures c.if-right-left.false
