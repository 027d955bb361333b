use mathlib.Core.Path.{sym, ap, ◌∙◌}
use Prim.Native.Nat.{◌<◌}
use native.Mathlib.Omega.{arith}
use lib.ListN.{length}
use lib.Seq.{take_all}
use Rattle.semantics.specs.Expand.{list_size}
use Rattle.monomial.specs.Words.{held}
use Rattle.monomial.proofs.ListLaws.{size_nil}
use Rattle.monomial.proofs.Rows.{held_length}
use Rattle.monomial.proofs.Searches.{slot_vars}
use Rattle.monomial.proofs.Sizes.{size_small, size_more, size_front}
use Rattle.monomial.proofs.lists.list_size.Goals as goal

pub loop-k-init : goal.loop-k-init
loop-k-init c = (omega arith, sym size_nil)

pub row_vars-requires : goal.row_vars-requires
row_vars-requires c = omega (arith, c.requires.1)

pub overflow_add-total-in-loop-k : goal.overflow_add-total-in-loop-k
overflow_add-total-in-loop-k c =
    let l = held c.args.count c.args.work.now in
    omega (arith, c.row_vars.ensures.1, c.loop-k.invariant.1, size_front l c.loop-k.k, size_small l c.requires.2, held_length c.args.count c.args.work.now)

pub loop-k-preserved : goal.loop-k-preserved
loop-k-preserved c =
    let n = c.args.count in
    let ws = c.args.work.now in
    let k = c.loop-k.k in
    let h : k < n = omega arith in
    let v = ap length (slot_vars ws k n h) in
    (omega arith, omega (arith, c.loop-k.invariant.1, size_more (held n ws) k (omega (arith, held_length n ws)), ap length c.row_vars.ensures.0, v))

pub returns : goal.returns
returns c =
    let n = c.args.count in
    let ws = c.args.work.now in
    c.loop-k.invariant.1 ∙ ap list_size (take_all c.loop-k.k (held n ws) (omega (arith, held_length n ws)))
