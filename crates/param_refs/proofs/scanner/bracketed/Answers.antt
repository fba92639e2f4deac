use Rattle.param_refs.proofs.Scanned.{bracket_none, number_some}
use Rattle.param_refs.proofs.scanner.bracketed.Goals as goal

pub returns-in_err-digits : goal.returns-in_err-digits
returns-in_err-digits c = rw c.from_residual.ensures (bracket_none c.args.text.now c.in_default.ensures c.in_default-in_quotes.ensures c.in_err-digits.ensures)

pub returns : goal.returns
returns c = number_some c.args.text.now c.in_ok-digits.digits.now c.in_ok-digits.rest.now c.in_ok-digits.ensures
