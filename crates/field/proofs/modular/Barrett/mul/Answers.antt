-- Both words are brought below p first. The product of two values is below p * p, and has room in 64 bits.
use mathlib.Core.Path.{◌∙◌}
use Rattle.field.proofs.Laws.{mul_rests}
use Rattle.field.proofs.modular.Barrett.mul.Goals as goal

pub returns : goal.returns
returns c =
    c.remainder.ensures
    ∙ mul_rests c.args.self.residues.p c.args.a c.args.self.residues.modulus c.reduced.ensures c.args.b c.reduced-2.ensures
