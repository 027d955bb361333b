-- Every monomial of the one list times every one of the other is summed into the work, where they are few and short enough.
use mathlib.Core.Path.{sym}
use Prim.Native.Nat.{◌+◌, ◌*◌, ◌≤◌}
use native.Mathlib.Omega.{arith}
use borrow.Author.Rules.{rules}
use lib.ListN.{length}
use Rattle.monomial.specs.Words.{longest_of}
use Rattle.monomial.proofs.Sizes.{longest_few}
use Rattle.expand.proofs.Working.{product_many, product_long, product_made}
use Rattle.expand.proofs.kinds.expand_product.Goals as goal

pub overflow_mul-len : goal.overflow_mul-len
overflow_mul-len c =
    let l : c.len.result ≤ 256 = omega (arith, c.len.ensures.0, c.requires.1) in
    let r : c.len-2.result ≤ 256 = omega (arith, c.len-2.ensures.0, c.requires.2) in
    search rules

pub returns-then-len-gt256 : goal.returns-then-len-gt256
returns-then-len-gt256 c =
    let a = c.args in
    product_many a.l a.r c.len.ensures.2 c.len-2.ensures.2 (rw (sym c.len.ensures.0, sym c.len-2.ensures.0) c.if-len-gt256.true)

pub overflow_add-longest : goal.overflow_add-longest
overflow_add-longest c =
    omega (arith, c.longest.ensures, c.longest-2.ensures, longest_few c.args.l c.len.ensures.2, longest_few c.args.r c.len-2.ensures.2)

pub returns-then-longest-gt14 : goal.returns-then-longest-gt14
returns-then-longest-gt14 c =
    let a = c.args in
    let few : length a.l * length a.r ≤ 256 = rw (sym c.len.ensures.0, sym c.len-2.ensures.0) (omega (arith, c.if-len-gt256.false)) in
    product_long a.l a.r c.len.ensures.2 c.len-2.ensures.2 few (omega (arith, c.longest.ensures, c.longest-2.ensures, c.if-longest-gt14.true))

pub returns : goal.returns
returns c =
    let a = c.args in
    let few : length a.l * length a.r ≤ 256 = rw (sym c.len.ensures.0, sym c.len-2.ensures.0) (omega (arith, c.if-len-gt256.false)) in
    let short : longest_of a.l + longest_of a.r ≤ 14 = omega (arith, c.longest.ensures, c.longest-2.ensures, c.if-longest-gt14.false) in
    product_made a.l a.r c.len.ensures.2 c.len-2.ensures.2 few short c.new-list.ensures c.sum_products.ensures
