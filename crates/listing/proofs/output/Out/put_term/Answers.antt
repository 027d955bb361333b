-- Each family's line is its letter, its numbers and its coefficient.
use Rattle.semantics.specs.Sheetlist.{t_line, u_line, w_line}
use Rattle.listing.proofs.output.Out.put_term.Goals as goal

pub put_term_line-requires : goal.put_term_line-requires
unfolding t_line
put_term_line-requires c = rw c.in-Constraints.is at c.requires.1

pub put_term_line-requires-in-Counts : goal.put_term_line-requires-in-Counts
unfolding u_line
put_term_line-requires-in-Counts c = rw c.in-Counts.is at c.requires.1

pub put_term_line-requires-in-Fields : goal.put_term_line-requires-in-Fields
unfolding w_line
put_term_line-requires-in-Fields c = rw c.in-Fields.is at c.requires.1

pub returns-in-Constraints : goal.returns-in-Constraints
unfolding t_line
returns-in-Constraints c = rw c.in-Constraints.is c.put_term_line.ensures

pub returns-in-Counts : goal.returns-in-Counts
unfolding u_line
returns-in-Counts c = rw c.in-Counts.is c.put_term_line-in-Counts.ensures

pub returns-in-Fields : goal.returns-in-Fields
unfolding w_line
returns-in-Fields c = rw c.in-Fields.is c.put_term_line-in-Fields.ensures
