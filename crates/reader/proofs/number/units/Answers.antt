use Rattle.reader.proofs.Numbers.{whole_too_large, digits_too_large}
use Rattle.reader.proofs.number.units.Goals as goal

pub returns-in_err-whole : goal.returns-in_err-whole
returns-in_err-whole c = rw c.from_residual-in_err-whole.ensures (whole_too_large c.args.measure c.args.number.now _ _ c.in_ok-decimal.ensures.1 c.in_ok-decimal.ensures.2 c.in_err-whole.ensures.value)

pub returns-in_err-digits : goal.returns-in_err-digits
returns-in_err-digits c = rw c.from_residual-in_err-digits.ensures (digits_too_large c.args.measure c.args.number.now _ _ _ c.in_ok-decimal.ensures.1 c.in_ok-decimal.ensures.2 c.in_ok-whole.ensures.value c.in_err-digits.ensures.value)
