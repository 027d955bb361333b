use mathlib.Core.Path.{sym, ap, ◌∙◌}
use mathlib.Core.List.{◌++◌}
use Prim.Native.Nat.{◌<◌}
use native.Mathlib.Omega.{arith}
use lib.ListN.{length, drop}
use lib.Seq.{take_all}
use Rattle.semantics.specs.Expand.{list_size}
use Rattle.monomial.specs.Words.{held, list_words}
use Rattle.monomial.proofs.Rows.{held_length}
use Rattle.monomial.proofs.Searches.{slot_vars, coef_at}
use Rattle.monomial.proofs.Sizes.{written_none, written_room, written_more}
use Rattle.monomial.proofs.lists.write_list.Goals as goal

pub loop-k-init : goal.loop-k-init
loop-k-init c = (omega arith, written_none (held c.args.count c.args.work.now) c.args.out.now)

pub row_vars-vars-requires : goal.row_vars-vars-requires
row_vars-vars-requires c = omega (arith, c.requires.1)

pub write_monomial-requires : goal.write_monomial-requires
write_monomial-requires c =
    let n = c.args.count in
    let ws = c.args.work.now in
    let b = c.loop-k in
    let v = c.row_vars-vars in
    let h : b.k < n = omega arith in
    let l = held n ws in
    let room = written_room l c.args.out.now b.out b.at b.k b.invariant.1 (omega (arith, held_length n ws)) c.requires.3 in
    (v.ensures.1, omega (arith, ap length v.ensures.0, ap length (slot_vars ws b.k n h), room))

pub loop-k-preserved : goal.loop-k-preserved
loop-k-preserved c =
    let n = c.args.count in
    let ws = c.args.work.now in
    let b = c.loop-k in
    let v = c.row_vars-vars in
    let w = c.write_monomial in
    let h : b.k < n = omega arith in (
      omega arith,
      written_more (held n ws) c.args.out.now b.out b.at b.k b.invariant.1 (omega (arith, held_length n ws)) v.result.now _ (v.ensures.0 ∙ sym (slot_vars ws b.k n h))
          (sym (coef_at ws b.k n h)) w.new.out w.auto.out w.ensures,
    )

pub returns : goal.returns
returns c =
    let n = c.args.count in
    let ws = c.args.work.now in
    let b = c.loop-k in
    let all = take_all b.k (held n ws) (omega (arith, held_length n ws)) in
    b.invariant.1.out_is ∙ (λ i. list_words (all i) ++ drop ((b.invariant.1.at_is ∙ ap list_size all) i) c.args.out.now)
