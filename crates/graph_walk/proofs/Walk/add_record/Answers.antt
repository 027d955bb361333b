-- The record's node is there already, or is interned; either way scratch gets its number, counted from 1, and the state holds with the record
-- added.
use mathlib.Core.Path.{refl, sym, subst}
use mathlib.Core.List.{◌∷◌}
use Prim.Native.Nat.{ℕ}
use native.Mathlib.Omega.{arith}
use lib.ListN.{set}
use Rattle.records.specs.Access.{five_words}
use Rattle.nodes.specs.Memory.{GraphHolds}
use Rattle.graph_walk.proofs.Steps as steps
use Rattle.graph_walk.proofs.Adds.{picked, record_few, in_scratch, present_few, search_inside, interned, index_few, room_more, at_order}
use Rattle.graph_walk.proofs.Walk.add_record.Goals as goal

pub overflow_add-self : goal.overflow_add-self
overflow_add-self c =
    let p = c.requires in
    omega (arith, present_few p c.in-Present.k (picked p c.pick_node.ensures c.in-Present.is))

pub offset_bounds-self-r : goal.offset_bounds-self-r
offset_bounds-self-r c = omega (arith, record_few c.requires)

pub bounds-self-r : goal.bounds-self-r
bounds-self-r c = in_scratch c.requires

pub intern_node-node-requires : goal.intern_node-node-requires
intern_node-node-requires c =
    let p = c.requires in
    (search_inside p (five_words c.in-Make.q) (picked p c.pick_node.ensures c.in-Make.is) _ c.search_from-from.ensures, room_more p)

pub overflow_cast-self : goal.overflow_cast-self
overflow_cast-self c =
    let p = c.requires in
    let e = picked p c.pick_node.ensures c.in-Make.is in
    omega (arith, index_few p (five_words c.in-Make.q) e _ c.search_from-from.ensures c.intern_node-node.ensures)

pub overflow_add-self-in-Make : goal.overflow_add-self-in-Make
overflow_add-self-in-Make c =
    let p = c.requires in
    let e = picked p c.pick_node.ensures c.in-Make.is in
    omega (arith, index_few p (five_words c.in-Make.q) e _ c.search_from-from.ensures c.intern_node-node.ensures)

pub offset_bounds-self-r-in-Make : goal.offset_bounds-self-r-in-Make
offset_bounds-self-r-in-Make c = omega (arith, record_few c.requires)

pub bounds-self-r-in-Make : goal.bounds-self-r-in-Make
bounds-self-r-in-Make c = in_scratch c.requires

pub returns-in-Present : goal.returns-in-Present
returns-in-Present c = (
  record { sheet = refl; scratch = refl; out = refl; long = refl },
  λ done o new there h.
      let w = c.args.self.now in
      let r = c.args.r in
      let p = at_order c.requires done o new there h in
      subst (λ (j : ℕ). GraphHolds w.sheet.words.now (r ∷ done) (set w.scratch.now r j) w.out.now w.n) (omega arith)
      (steps.holds_present w.sheet.words.now done w.scratch.now w.out.now w.n h r p.inside c.in-Present.k
      (sym (picked p c.pick_node.ensures c.in-Present.is))),
)

pub returns-in-Make : goal.returns-in-Make
returns-in-Make c =
    let v = c.intern_node-node in (
      record { sheet = refl; scratch = refl; out = refl; long = v.auto.out },
      λ done o new there h.
          let w = c.args.self.now in
          let r = c.args.r in
          let p = at_order c.requires done o new there h in
          let q = five_words c.in-Make.q in
          let e = picked p c.pick_node.ensures c.in-Make.is in
          let i = interned p q e _ c.search_from-from.ensures v.ensures in
          subst (λ (j : ℕ). GraphHolds w.sheet.words.now (r ∷ done) (set w.scratch.now r j) v.new.out v.result.count) (omega arith)
          (steps.holds_made w.sheet.words.now done w.scratch.now w.out.now w.n h r p.inside q (sym e)
          v.new.out v.result.index v.result.count v.auto.out i.0 i.1 i.2),
    )
