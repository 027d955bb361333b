-- Both words are brought below p first. A sum of two values is below p, or below p once p is taken from it.
use Rattle.field.proofs.Laws.{add_low, add_high}
use Rattle.field.proofs.modular.Residues.add.Goals as goal

pub returns-then-sum-self : goal.returns-then-sum-self
returns-then-sum-self c =
    add_low c.args.self.p c.args.a c.args.self.modulus c.reduced.ensures c.args.b c.reduced-2.ensures c.if-sum-self.true

pub returns-else-sum-self : goal.returns-else-sum-self
returns-else-sum-self c =
    add_high c.args.self.p c.args.a c.args.self.modulus c.reduced.ensures c.args.b c.reduced-2.ensures c.if-sum-self.false
