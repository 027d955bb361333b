use mathlib.Core.Logic.{inl}
use mathlib.Core.Path.{◌≡◌, ap, ◌∙◌}
use Prim.Native.Nat.{◌+◌}
use native.Mathlib.Omega.{arith}
use Rattle.std.specs.Iterator.Adapters.{enumerate_source, enumerate_count}
use Rattle.grouping.proofs.RootItems.{numbered_as, parts_none, parts_few, parts_done, names_few, parts_ready, parts_more}
use Rattle.grouping.proofs.families.place_parts.Goals as goal

pub loop-i-init : goal.loop-i-init
loop-i-init c =
    let e = c.enumerate-i-items.ensures in
    let i = c.into_iter-i-iterator in
    let s = ap enumerate_source i.ensures.into_iter_gives ∙ e.source ∙ c.interactions.ensures in
    let k = ap enumerate_count i.ensures.into_iter_gives ∙ e.count in
    let g = parts_none c.args.sheet.checked c.requires k s in
    ((tt, tt, inl (omega (arith, parts_few g c.args.sheet.checked))), tt, g)

pub overflow_cast-i : goal.overflow_cast-i
overflow_cast-i c = omega (arith, c.in-Some.ensures.steps.1, parts_few c.loop-i.invariant.2 c.args.sheet.checked)

pub place_references-requires : goal.place_references-requires
place_references-requires c =
    let e = c.in-Some.ensures.steps in
    let g = c.loop-i.invariant.2 in
    (omega (arith, names_few g e.0 c.part.ensures), parts_ready (numbered_as e.1 g) e.0 c.part.ensures)

pub loop-i-preserved : goal.loop-i-preserved
loop-i-preserved c =
    let e = c.in-Some.ensures.steps in
    let place = c.place_references in
    let k : enumerate_count c.next.new.self ≡ c.in-Some.i + 1 = omega (arith, e.1, e.2) in
    let g = numbered_as k (parts_more (numbered_as e.1 c.loop-i.invariant.2) e.0 c.part.ensures place.ensures) in
    ((tt, tt, inl (omega (arith, parts_few g c.args.sheet.checked))), tt, g)

pub returns : goal.returns
returns c = parts_done c.loop-i.invariant.2 c.in-None.ensures.steps.0.0
