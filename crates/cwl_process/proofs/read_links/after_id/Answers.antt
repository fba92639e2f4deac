use Rattle.std.proofs.Common.{◌≡◌, ◌++◌, ◌∷◌, lit<, sym, ap, ◌∙◌}
use Rattle.std.proofs.lemmas.Str.Pattern.{strip_prefix_char}
use Rattle.cwl_process.proofs.Sources.{follows_not, follows_slash}
use Rattle.cwl_process.proofs.read_links.after_id.Goals as goal

pub returns-in_err-rest : goal.returns-in_err-rest
returns-in_err-rest c = rw c.from_residual.ensures (follows_not c.args.id.now c.args.text.now (λ rest is. c.in_err-rest.ensures.cases (47 ∷ rest) is))

pub returns : goal.returns
returns c =
    let rest = c.in_ok-rest.rest.now in
    let found = c.in_ok-rest.ensures.cases in
    let on : c.args.text.now ≡ c.args.id.now ++ rest = found.1.1 ∙ ap (λ l. c.args.id.now ++ l) (sym found.2) in
    follows_slash c.args.id.now c.args.text.now rest c.strip_prefix-2.result on (strip_prefix_char 47 rest c.strip_prefix-2.result c.strip_prefix-2.ensures.cases (lit< tt))
