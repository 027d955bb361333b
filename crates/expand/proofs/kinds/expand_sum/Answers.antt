-- Both lists are summed into the work, the second one with its sign, where they are few enough together.
use Prim.Native.Nat.{◌+◌, ◌≤◌}
use native.Mathlib.Omega.{arith}
use lib.ListN.{length}
use Rattle.expand.proofs.Working.{sum_many, sum_second, sum_made}
use Rattle.expand.proofs.kinds.expand_sum.Goals as goal

pub returns-then-len-gt256 : goal.returns-then-len-gt256
returns-then-len-gt256 c =
    let a = c.args in
    sum_many a.sign a.l a.r c.len.ensures.2 c.len-2.ensures.2 (omega (arith, c.if-len-gt256.true, c.len.ensures.0, c.len-2.ensures.0))

pub sum_all-requires-2 : goal.sum_all-requires-2
sum_all-requires-2 c =
    let a = c.args in
    let few : length a.l + length a.r ≤ 256 = omega (arith, c.if-len-gt256.false, c.len.ensures.0, c.len-2.ensures.0) in
    sum_second a.sign a.l a.r c.len.ensures.2 c.len-2.ensures.2 few c.new-list.result c.sum_all.new.self c.new-list.ensures c.sum_all.ensures

pub returns : goal.returns
returns c =
    let a = c.args in
    let few : length a.l + length a.r ≤ 256 = omega (arith, c.if-len-gt256.false, c.len.ensures.0, c.len-2.ensures.0) in
    sum_made a.sign a.l a.r c.len.ensures.2 c.len-2.ensures.2 few c.new-list.result c.sum_all.new.self c.new-list.ensures c.sum_all.ensures c.sum_all-2.new.self
    c.sum_all-2.ensures
