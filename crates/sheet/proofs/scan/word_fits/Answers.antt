-- In each arm the use is known, so that the definition has the arm's own test.
use borrow.Author.Tests.{eq-eqb, ne_eqb, le-leb, lt-leb}
use Rattle.semantics.specs.Sheet.{fits}
use Rattle.sheet.proofs.scan.word_fits.Goals as goal

pub returns-in-Unused : goal.returns-in-Unused
unfolding fits
returns-in-Unused c = rw c.in-Unused.is

pub returns-in-Entry : goal.returns-in-Entry
unfolding fits
returns-in-Entry c = rw c.in-Entry.is

pub returns-then-a-eq1 : goal.returns-then-a-eq1
unfolding fits
returns-then-a-eq1 c = rw (c.in-Part.is, eq-eqb _ _ c.if-a-eq1.true)

pub returns-else-a-eq1 : goal.returns-else-a-eq1
unfolding fits
returns-else-a-eq1 c = rw (c.in-Part.is, ne_eqb _ _ c.if-a-eq1.false)

pub returns-then-a-le1 : goal.returns-then-a-le1
unfolding fits
returns-then-a-le1 c = rw (c.in-Offset.is, le-leb _ _ c.if-a-le1.true)

pub returns-else-a-le1 : goal.returns-else-a-le1
unfolding fits
returns-else-a-le1 c = rw (c.in-Offset.is, lt-leb _ _ c.if-a-le1.false)

pub returns-in-Any : goal.returns-in-Any
unfolding fits
returns-in-Any c = rw c.in-Any.is

pub returns-in-Constant : goal.returns-in-Constant
unfolding fits
returns-in-Constant c = rw c.in-Constant.is

pub returns-in-Child : goal.returns-in-Child
unfolding fits
returns-in-Child c = rw c.in-Child.is
