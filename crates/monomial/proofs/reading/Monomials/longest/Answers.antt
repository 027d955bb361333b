use mathlib.Core.Path.{refl, ap}
use Prim.Native.Nat.{◌+◌, ◌≤◌}
use native.Mathlib.Omega.{arith}
use borrow.Author.Rules.{rules}
use lib.ListN.{length}
use Rattle.monomial.specs.Words.{longest_of}
use Rattle.monomial.proofs.Sizes.{longest_none, longest_room, longest_more, longest_done}
use Rattle.monomial.proofs.reading.Monomials.longest.Goals as goal

pub loop-init : goal.loop-init
loop-init c = longest_none (omega arith) c.self.invariant (ap longest_of c.self.view_is)

pub vars_in-count-requires : goal.vars_in-count-requires
vars_in-count-requires c = omega (arith, longest_room c.loop.invariant (omega arith))

pub overflow_add-at : goal.overflow_add-at
overflow_add-at c =
    let words = c.self.inside.words.now in
    let room : 2 + c.vars_in-count.result ≤ length words = omega (arith, longest_room c.loop.invariant (omega arith), c.vars_in-count.ensures) in
    search rules

pub overflow_add-at-in-loop : goal.overflow_add-at-in-loop
overflow_add-at-in-loop c =
    let words = c.self.inside.words.now in
    let room : c.loop.at + (2 + c.vars_in-count.result) ≤ length words = omega (arith, longest_room c.loop.invariant (omega arith), c.vars_in-count.ensures) in
    search rules

pub loop-preserved : goal.loop-preserved
loop-preserved c =
    let v = c.vars_in-count in
    longest_more c.loop.invariant v.result c.max-most.result _ _ (omega arith) v.ensures c.max-most.ensures refl (omega arith)

pub returns : goal.returns
returns c = longest_done c.loop.invariant (omega arith)
