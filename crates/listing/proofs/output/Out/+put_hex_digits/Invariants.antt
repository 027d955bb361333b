-- No digit is wanted, or the digits of the word's sixteenth are written and its last digit behind them; the number of digits falls.
use Rattle.listing.proofs.output.Out.+put_hex_digits.Given as goal

abbrev pub decreases-put_hex_digits : goal.decreases-put_hex_digits
decreases-put_hex_digits l = l.count
