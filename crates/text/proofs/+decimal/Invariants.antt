-- `decimal`: it calls itself for the digits before the last; the measure is how many digits there may be.
use Rattle.text.proofs.+decimal.Given as goal

abbrev pub decreases-decimal : goal.decreases-decimal
decreases-decimal l = l.digits
