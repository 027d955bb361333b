-- None of the rows is used.
use mathlib.Core.Path.{sym, subst}
use mathlib.Core.List.{List}
use Prim.Native.Nat.{ℕ, ◌≤◌}
use native.Mathlib.Omega.{arith}
use lib.ListN.{length, take}
use lib.Seq.{length-take-le}
use Rattle.semantics.specs.Lists.{All}
use Rattle.monomial.specs.Words.{Fits}
use Rattle.monomial.proofs.Rows.{held_zero}
use Rattle.monomial.proofs.work_list.WorkList.new.Goals as goal

room : (n : ℕ) (ws : List ℕ) → n ≤ length ws → n ≤ length (take n ws)
room n ws h = omega (arith, length-take-le n ws h)

pub invariant_of-result : goal.invariant_of-result
invariant_of-result c = (omega arith, room 4096 c.args.work.now c.requires, subst (All Fits) (sym (held_zero _)) tt)

pub returns : goal.returns
returns c = held_zero _
