use Rattle.std.proofs.Common.{sym, ap, ◌∙◌}
use Rattle.hex.specs.Hex.{encode_lower}
use Rattle.process_machine.proofs.summing.finished.Goals as goal

pub returns : goal.returns
returns c = λ bytes held counted. record { sum = c.from_string.ensures ∙ c.in_ok-sum.ensures ∙ ap encode_lower (c.finalize.ensures bytes held); size = sym counted }
