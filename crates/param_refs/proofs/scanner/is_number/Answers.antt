use Rattle.std.proofs.Common.{sym, ◌∙◌}
use Rattle.param_refs.proofs.Scanned.{number-is}
use Rattle.param_refs.proofs.scanner.is_number.Goals as goal

pub returns-then-not-is_empty : goal.returns-then-not-is_empty
returns-then-not-is_empty c = c.are_digits.ensures ∙ number-is c.args.text.now (sym c.is_empty.ensures ∙ c.if-not-is_empty.true)
