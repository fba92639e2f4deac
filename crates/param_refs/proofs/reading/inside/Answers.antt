use Rattle.std.proofs.Common.{◌∷◌, Some, None, lit<}
use Rattle.std.proofs.lemmas.Str.Pattern.{strip_prefix_char}
use Rattle.param_refs.proofs.Readings.{after_dollar}
use Rattle.param_refs.proofs.reading.inside.Goals as goal

pub returns-in_err-rest : goal.returns-in_err-rest
returns-in_err-rest c = rw c.from_residual.ensures (λ rest e. strip_prefix_char 36 c.args.text.now None c.in_err-rest.ensures.cases (lit< tt) (40 ∷ rest) e)

pub returns : goal.returns
returns c =
    after_dollar c.args.text.now c.in_ok-rest.rest.now c.strip_prefix-2.result (strip_prefix_char 36 c.args.text.now (Some c.in_ok-rest.rest) c.in_ok-rest.ensures.cases (lit< tt))
    (strip_prefix_char 40 c.in_ok-rest.rest.now c.strip_prefix-2.result c.strip_prefix-2.ensures.cases (lit< tt))
