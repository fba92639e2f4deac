use Rattle.std.proofs.Common.{sym, ap, ◌∙◌}
use Rattle.hex.specs.Hex.{encode_lower}
use Rattle.file_values.proofs.sum.finished.Goals as goal

pub returns-clause-ok : goal.returns-clause-ok
returns-clause-ok c =
    λ bytes held counted. record { sum = c.from_string.ensures ∙ c.in_ok-sum.ensures ∙ ap encode_lower (c.finalize.ensures bytes held); size = sym counted }
