-- The lengths are compared, then the variables: the order of the lists with their lengths in front, which is `order_of` by `order_is`.
use mathlib.Core.Path.{sym, ap, ◌∙◌}
use mathlib.Core.List.{List}
use Prim.Native.Nat.{ℕ}
use Rattle.std.specs.Cmp.Lexicographic.{slice_cmp}
use Rattle.std.specs.Ordering.{nat_cmp, ordering_then}
use Rattle.std.specs.declared.cmp.Ordering.{Ordering}
use Rattle.monomial.proofs.Orderings.{decided, equal_is, order_is}
use Rattle.monomial.proofs.vars.compare.Goals as goal

module _ (xs ys : List ℕ) where
  abbrev then : Ordering → Ordering
  then o = ordering_then o (slice_cmp nat_cmp xs ys)

pub compare_each-requires : goal.compare_each-requires
compare_each-requires c = equal_is _ _ c.cmp.ensures c.in-Equal.is

pub returns-in-Equal : goal.returns-in-Equal
returns-in-Equal c =
    let xs = c.args.left.now in
    let ys = c.args.right.now in
    order_is xs ys c.compare_each.result (c.compare_each.ensures ∙ ap (then xs ys) (sym c.in-Equal.is ∙ c.cmp.ensures))

pub returns-in_default : goal.returns-in_default
returns-in_default c =
    let xs = c.args.left.now in
    let ys = c.args.right.now in
    order_is xs ys c.cmp.result (decided c.cmp.result (slice_cmp nat_cmp xs ys) c.in_default.not-Equal ∙ ap (then xs ys) c.cmp.ensures)
