-- The digits before the last are those of a smaller number.
use Rattle.lines.proofs.lines.+put_decimal.Given as goal

abbrev pub decreases-put_decimal : goal.decreases-put_decimal
decreases-put_decimal l = l.n
