-- A value below 0 has a minus sign, and behind it, as of any other, its size is written in decimal.
use mathlib.Core.List.{[], ◌∷◌}
use Rattle.listing.proofs.Writing.{room_is, room_front, room_next, puts_is, puts_next}
use Rattle.listing.proofs.Signs.{signed_minus, signed_plain}
use Rattle.listing.proofs.output.Out.put_signed.Goals as goal
use Rattle.listing.proofs.output.Out.put_signed.Goals.{then-value-lt0, else-value-lt0}

pub put_byte-requires : goal.put_byte-requires
put_byte-requires c =
    room_front c.args.self.now (45 ∷ []) _ (signed_minus c.args.coefficient c.signed-value.result c.signed-value.ensures c.if-value-lt0.true) c.requires

pub put_decimal-requires : goal.put_decimal-requires
put_decimal-requires c = let v = c.signed-value in elim c.if-value-lt0.branch [
  | then-value-lt0 w ↦
      rw (w.self-is, c.unsigned_abs.ensures.value)
      (room_next w.put_byte.ensures _ (signed_minus c.args.coefficient v.result v.ensures w.if-value-lt0.true) c.requires)
  | else-value-lt0 w ↦
      rw (w.self-is, c.unsigned_abs.ensures.value)
      (room_is c.args.self.now (signed_plain c.args.coefficient v.result v.ensures w.if-value-lt0.false) c.requires)
]

pub returns : goal.returns
returns c = let v = c.signed-value in elim c.if-value-lt0.branch [
  | then-value-lt0 w ↦
      puts_next w.put_byte.ensures _ (signed_minus c.args.coefficient v.result v.ensures w.if-value-lt0.true) c.requires
      (rw (w.self-is, c.unsigned_abs.ensures.value) at c.put_decimal.ensures)
  | else-value-lt0 w ↦
      puts_is (rw (w.self-is, c.unsigned_abs.ensures.value) at c.put_decimal.ensures)
      (signed_plain c.args.coefficient v.result v.ensures w.if-value-lt0.false)
]
