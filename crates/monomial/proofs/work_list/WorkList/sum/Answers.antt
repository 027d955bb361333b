-- The monomial is looked for. Where one has its variables it is summed into that one, by `insert_at`; else it is put where the search ended, by
-- `insert_gap`, unless its coefficient is 0.
use mathlib.Core.Path.{◌≡◌, sym, ap, ◌∙◌}
use mathlib.Core.List.{List, ◌++◌}
use lib.ListN.{take, drop, take-append-drop}
use Rattle.semantics.specs.Arithmetic.{prime}
use Rattle.semantics.specs.Monomial.{Monomial}
use Rattle.monomial.specs.Words.{monomial_of}
use Rattle.monomial.proofs.Inserting.{insert_gap, insert_at, keep_zero, keep_other}
use Rattle.monomial.proofs.work_list.WorkList.sum.Goals as goal

pub returns-in-Ok : goal.returns-in-Ok
returns-in-Ok c =
    let h = c.in-Ok.ensures in
    c.sum_at.ensures ∙ sym (insert_at prime (monomial_of c.args.m.now) c.args.self.now c.in-Ok.k c.requires.1 h.0 h.1)

pub returns-in-Err : goal.returns-in-Err
returns-in-Err c =
    let l = c.args.self.now in
    let m = monomial_of c.args.m.now in
    let k = c.in-Err.k in
    let h = c.in-Err.ensures in
    let other : m.coef ≡ 0 → ⊥ = c.if-m-ne0.true in
    c.put_at.ensures ∙ sym (insert_gap prime m l k h.0 h.1 h.2 ∙ ap (λ (r : List Monomial). take k l ++ r) (keep_other m (drop k l) other))

pub returns-else-m-ne0 : goal.returns-else-m-ne0
returns-else-m-ne0 c =
    let l = c.args.self.now in
    let m = monomial_of c.args.m.now in
    let k = c.in-Err.k in
    let h = c.in-Err.ensures in
    sym (insert_gap prime m l k h.0 h.1 h.2 ∙ ap (λ (r : List Monomial). take k l ++ r) (keep_zero m (drop k l) c.if-m-ne0.false) ∙ take-append-drop k l)
