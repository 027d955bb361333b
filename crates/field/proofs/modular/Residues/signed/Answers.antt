-- The word is brought below p; a value up to half of it stays, one above has p taken off.
use borrow.Author.Rules.{rules}
use Rattle.field.proofs.Laws.{signed_low, signed_high}
use Rattle.field.proofs.modular.Residues.signed.Goals as goal

pub returns-then-value-self : goal.returns-then-value-self
returns-then-value-self c =
    signed_low c.args.self.p c.args.a c.args.self.modulus c.reduced-value.ensures (search rules)

pub returns-else-value-self : goal.returns-else-value-self
returns-else-value-self c =
    signed_high c.args.self.p c.args.a c.args.self.modulus c.reduced-value.ensures (search rules)
