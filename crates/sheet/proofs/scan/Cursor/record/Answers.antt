-- The kind is judged, then the words a to d by the row of that kind.
use Rattle.std.proofs.Common.{◌≡◌, ◌∙◌, get_or, rules, arith, leb, ◌&&◌}
use Rattle.semantics.specs.Arithmetic.{prime}
use Rattle.sheet.proofs.Laws.{record_left, left_stops, left_next, kind_read, record_rest, uses_row}
use Rattle.sheet.proofs.scan.Cursor.record.Goals as goal

pub returns-in_default : goal.returns-in_default
returns-in_default c =
    left_stops (record_left c.args.self.now prime c.args.own) _ _ (c.word-kind.ensures.scan (λ w. leb 1 w && leb w 9) (λ w passes few said. search rules)) _
    c.unwrap_err.ensures

pub returns : goal.returns
returns c =
    let kind = left_next (record_left c.args.self.now prime c.args.own) _ _
    (c.word-kind.ensures.scan (λ w. leb 1 w && leb w 9) (λ w passes few said. search rules)) _ c.in-Ok.is in
    let first : c.unwrap_or-a.result ≡ get_or c.word-kind.new.self.words 0 0 = rw (← c.self.view_is) (search rules) in
    c.row.ensures ∙ record_rest prime c.args.own c.args.self.now _ c.in-Ok.ensures.word first (uses_row c.in-Ok.k) ∙ kind.give

pub overflow_sub-k : goal.overflow_sub-k
overflow_sub-k c =
    let kind = kind_read c.args.self.now _ c.in-Ok.ensures.word (c.in-Ok.ensures.scan (λ w. leb 1 w && leb w 9) (λ w passes few said. search rules)) in
    kind.0

pub bounds-k-k : goal.bounds-k-k
bounds-k-k c =
    let kind = kind_read c.args.self.now _ c.in-Ok.ensures.word (c.in-Ok.ensures.scan (λ w. leb 1 w && leb w 9) (λ w passes few said. search rules)) in
    omega (arith, kind.1)
