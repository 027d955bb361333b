-- `checked_add` has the sum where it fits, and `ok_or` the refusal where it does not.
use Rattle.std.proofs.Common.{ap, ◌∙◌}
use Rattle.answers.specs.Replies.{answer_of}
use Rattle.symbolic_variable.proofs.Laws.{sum_moved}
use Rattle.symbolic_variable.proofs.moved.Goals as goal

pub returns : goal.returns
returns c =
    let a = c.args in
    ap answer_of c.ok_or.ensures.value ∙ sum_moved a.offset a.by c.checked_add.result c.checked_add.ensures
