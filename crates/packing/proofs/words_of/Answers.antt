-- A type of 8 and more is a row mark's, a lower one a variable's.
use mathlib.Core.Path.{sym}
use Prim.Native.Nat.{◌%◌}
use lib.Dec.{leb}
use borrow.Author.Tests.{le-leb, lt-leb}
use Rattle.semantics.specs.Packing.{unpacked}
use Rattle.semantics.proofs.Basics.{cond_true, cond_false}
use Rattle.packing.proofs.words_of.Goals as goal

pub returns-then-n-ge8 : goal.returns-then-n-ge8
unfolding unpacked
returns-then-n-ge8 c =
    let type = c.args.v.0 % 16 in
    sym (cond_true (leb 8 type) _ _ (le-leb 8 type c.if-n-ge8.true))

pub returns : goal.returns
unfolding unpacked
returns c =
    let type = c.args.v.0 % 16 in
    sym (cond_false (leb 8 type) _ _ (lt-leb 8 type c.if-n-ge8.false))
