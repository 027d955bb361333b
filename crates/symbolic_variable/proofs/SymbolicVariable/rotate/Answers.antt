-- The answer is that of the entry, with the column kept.
use Rattle.std.proofs.Common.{sym, Ok, Err}
use Rattle.semantics.specs.Answer.{good}
use Rattle.answers.proofs.Outcomes.{goes_on, hands_back}
use Rattle.symbolic_variable.specs.Variable.{variable_of}
use Rattle.symbolic_variable.proofs.Laws.{variable_turned}
use Rattle.symbolic_variable.proofs.SymbolicVariable.rotate.Goals as goal

pub returns-in_default : goal.returns-in_default
returns-in_default c =
    let a = c.args in
    variable_turned a.self a.offset (Err c.unwrap_err.result)
    (sym (hands_back (λ e. good (variable_of e a.self.index)) c.rotated-rotated.ensures c.unwrap_err.ensures))

pub returns : goal.returns
returns c =
    let a = c.args in
    variable_turned a.self a.offset (Ok (variable_of c.in-Ok.entry a.self.index))
    (sym (goes_on (λ e. good (variable_of e a.self.index)) c.rotated-rotated.ensures c.in-Ok.is))
