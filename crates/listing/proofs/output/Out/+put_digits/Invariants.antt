-- No digit is wanted, or the digits of a tenth of the number are written, if there are any, and its last digit behind them; the number of digits falls.
use Rattle.listing.proofs.output.Out.+put_digits.Given as goal

abbrev pub decreases-put_digits : goal.decreases-put_digits
decreases-put_digits l = l.most
