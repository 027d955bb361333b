-- A list that is read has as many monomials as are counted, and each takes two words or more.
use mathlib.Core.Path.{◌≡◌, sym, ap, subst, ◌∙◌}
use native.Mathlib.Omega.{arith}
use lib.ListN.{length, drop}
use Rattle.semantics.specs.Lists.{All}
use Rattle.monomial.specs.Words.{list_in, Fits}
use Rattle.monomial.proofs.ListLaws.{list_length, size_large}
use Rattle.monomial.proofs.reading.Monomials.len.Goals as goal

pub returns : goal.returns
returns c =
    let s = c.self.inside in
    let l = list_in s.words.now s.at s.count in
    let e : length l ≡ s.count = list_length s.count (drop s.at s.words.now) in
    (sym e ∙ ap length c.self.view_is, omega (arith, e, size_large l, c.self.invariant.inside), subst (All Fits) c.self.view_is c.self.invariant.fit)
