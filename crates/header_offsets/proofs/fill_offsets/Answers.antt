use Rattle.std.proofs.Common.{arith}
use Rattle.header_offsets.proofs.Filling.{vars_next, terms_next, next, done}
use Rattle.header_offsets.proofs.fill_offsets.Goals as goal

pub overflow_add-vars : goal.overflow_add-vars
overflow_add-vars c = record { fits = vars_next c.loop-h.invariant (omega arith) }

pub overflow_add-terms : goal.overflow_add-terms
overflow_add-terms c = record { fits = terms_next c.loop-h.invariant (omega arith) }

pub loop-h-preserved : goal.loop-h-preserved
loop-h-preserved c = next c.loop-h.invariant (omega arith)

pub returns : goal.returns
returns c = done c.loop-h.invariant (omega arith)
