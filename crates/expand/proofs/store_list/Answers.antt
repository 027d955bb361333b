-- There is no room for the list, or it is written behind what is taken and its place goes into the record's two words.
use Prim.Native.Nat.{◌+◌, ◌*◌}
use native.Mathlib.Omega.{arith}
use lib.ListN.{set}
use Rattle.semantics.specs.Expand.{list_size}
use Rattle.monomial.specs.Words.{list_words}
use Rattle.expand.proofs.Storing.{tail_written}
use Rattle.expand.proofs.store_list.Goals as goal

pub returns : goal.returns
returns c =
    let a = c.args in
    let l = a.list.now in
    let tail = tail_written a.pool.now c.write_to.new.out (list_words l) a.used (list_size l) c.write_to.ensures in (
      omega (arith, c.list_size-size.ensures.0),
      omega (arith, c.if-pool-used.false, c.list_size-size.ensures.0),
      λ i. set (set (tail i) (2 * a.r) a.used) (2 * a.r + 1) (c.len.ensures.0 i),
      c.len.ensures.1,
    )
