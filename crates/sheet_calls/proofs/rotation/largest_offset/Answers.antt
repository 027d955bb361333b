use mathlib.Core.Path.{ap, ◌∙◌}
use mathlib.Core.Bool.{cond}
use lib.Dec.{eqb}
use native.Mathlib.Omega.{arith}
use borrow.Author.Rules.{rules}
use Rattle.semantics.specs.Sheet.{Record}
use Rattle.semantics.proofs.Places.{place_below}
use Rattle.sheet_calls.proofs.Offsets.{largest_none, largest_more, largest_all}
use Rattle.sheet_calls.proofs.rotation.largest_offset.Goals as goal

pub loop-i-init : goal.loop-i-init
loop-i-init c = largest_none c.args.s.now c.args.records

pub record_at-q-requires : goal.record_at-q-requires
record_at-q-requires c =
    let loop = c.loop-i in
    omega (arith, place_below 5 loop.i c.args.records (search rules))

pub loop-i-preserved : goal.loop-i-preserved
loop-i-preserved c =
    largest_more c.loop-i.invariant (search rules)
    (c.offset_of.ensures ∙ ap (λ (q : Record). cond (eqb q.kind 1) q.c 0) c.record_at-q.ensures) (search rules)

pub returns : goal.returns
returns c = largest_all c.loop-i.invariant (search rules)
