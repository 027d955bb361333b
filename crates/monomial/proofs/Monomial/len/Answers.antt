-- Of fourteen places no more can be variables.
use mathlib.Core.Path.{◌≡◌}
use native.Mathlib.Omega.{arith}
use borrow.Author.Rules.{rules}
use lib.ListN.{length, length-map, length-take}
use Rattle.monomial.specs.Words.{num, nums}
use Rattle.monomial.proofs.Monomial.len.Goals as goal

pub returns : goal.returns
returns c =
    let m = c.args.self.now in
    let places : length m.vars ≡ 14 = search rules in
    (omega (arith, c.min.ensures, length-take m.count (nums m.vars), length-map m.vars num), omega (arith, c.min.ensures))
