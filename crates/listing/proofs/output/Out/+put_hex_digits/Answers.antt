use mathlib.Core.Path.{refl}
use Prim.Native.Nat.{◌%◌}
use native.Mathlib.Omega.{arith}
use Rattle.semantics.specs.Sheetlist.{hex_digit}
use Rattle.listing.proofs.Writing.{room_front, room_next, puts_next}
use Rattle.listing.proofs.Digits.{hex_none, hex_more}
use Rattle.listing.proofs.output.Out.+put_hex_digits.Goals as goal

pub returns-then-count-eq0 : goal.returns-then-count-eq0
returns-then-count-eq0 t c = hex_none c.args.self.now c.args.count c.args.word c.if-count-eq0.true

pub put_hex_digits-requires : goal.put_hex_digits-requires
put_hex_digits-requires t c =
    let a = c.args in
    (omega arith, room_front a.self.now _ _ (hex_more a.count a.word (hex_digit (a.word % 16)) c.if-count-eq0.false refl) c.requires)

pub put_byte-requires : goal.put_byte-requires
put_byte-requires t c =
    room_next c.put_hex_digits.ensures _ (hex_more c.args.count c.args.word c.hex_digit.result c.if-count-eq0.false c.hex_digit.ensures) c.requires

pub returns : goal.returns
returns t c =
    puts_next c.put_hex_digits.ensures _ (hex_more c.args.count c.args.word c.hex_digit.result c.if-count-eq0.false c.hex_digit.ensures)
    c.requires c.put_byte.ensures
