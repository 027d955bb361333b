use native.Mathlib.Omega.{arith}
use Rattle.listing.proofs.Writing.{last_room, done_last}
use Rattle.listing.proofs.Digits.{digits_none, digits_one, tenth_room, tenth_put}
use Rattle.listing.proofs.output.Out.+put_digits.Goals as goal
use Rattle.listing.proofs.output.Out.+put_digits.Goals.{then-n-ge10, else-n-ge10}

pub returns-then-most-eq0 : goal.returns-then-most-eq0
returns-then-most-eq0 t c = digits_none c.args.self.now c.args.most c.args.n c.if-most-eq0.true

pub put_digits-requires : goal.put_digits-requires
put_digits-requires t c = (omega arith, tenth_room c.args.self.now c.args.most c.args.n c.if-most-eq0.false c.requires c.if-n-ge10.true)

pub put_byte-requires : goal.put_byte-requires
put_byte-requires t c = let a = c.args in elim c.if-n-ge10.branch [
  | then-n-ge10 w ↦ rw w.self-is (last_room (tenth_put a.self.now a.most a.n c.if-most-eq0.false c.requires w.if-n-ge10.true w.put_digits.ensures))
  | else-n-ge10 w ↦ rw w.self-is (last_room (digits_one a.self.now a.most a.n c.if-most-eq0.false c.requires w.if-n-ge10.false))
]

pub returns : goal.returns
returns t c = let a = c.args in elim c.if-n-ge10.branch [
  | then-n-ge10 w ↦ done_last (tenth_put a.self.now a.most a.n c.if-most-eq0.false c.requires w.if-n-ge10.true w.put_digits.ensures) (rw w.self-is at c.put_byte.ensures)
  | else-n-ge10 w ↦ done_last (digits_one a.self.now a.most a.n c.if-most-eq0.false c.requires w.if-n-ge10.false) (rw w.self-is at c.put_byte.ensures)
]
