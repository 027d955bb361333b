-- A digit below 10 is a figure, any other a letter.
use Rattle.listing.proofs.Digits.{hex_low, hex_high}
use Rattle.listing.proofs.output.hex_digit.Goals as goal

pub returns-then-d-lt10 : goal.returns-then-d-lt10
returns-then-d-lt10 c = hex_low c.args.d c.if-d-lt10.true

pub returns : goal.returns
returns c = hex_high c.args.d c.if-d-lt10.false
