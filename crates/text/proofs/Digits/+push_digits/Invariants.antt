-- Each call has the number without its last digit.
use Rattle.text.proofs.Digits.+push_digits.Given as goal

abbrev pub decreases-push_digits : goal.decreases-push_digits
decreases-push_digits l = l.n
