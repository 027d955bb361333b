-- Running totals are written into the rows, which keep their tallies (`start_rows`).
use mathlib.Core.Path.{refl}
use Rattle.group.proofs.Starts.{start_rows}
use Rattle.group.proofs.Groups.start_terms.Goals as goal

pub start_terms-requires : goal.start_terms-requires
start_terms-requires c = (c.args.self.now.rows.room, c.requires)

pub invariant_of-self : goal.invariant_of-self
invariant_of-self c =
    let g = c.args.self.now in
    let u = c.start_terms in
    record { rows = (start_rows g.n g.headers.now u.new.headers g.pool.now g.rows u.ensures.0 u.ensures.1 u.auto.headers).0 }

pub returns : goal.returns
returns c =
    let g = c.args.self.now in
    let u = c.start_terms in
    record {
      same = record { slice = refl; long = u.auto.headers; pool = refl };
      count = refl;
      tallies_are = (start_rows g.n g.headers.now u.new.headers g.pool.now g.rows u.ensures.0 u.ensures.1 u.auto.headers).1;
      set = u.ensures.0;
    }
