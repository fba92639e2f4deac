use Rattle.std.proofs.Common.{◌∙◌, ap, codes, drop, false}
use Rattle.std.proofs.lemmas.Bool.{false≢true}
use Rattle.std.proofs.lemmas.Str.Pattern.{starts_text}
use Rattle.given_words.proofs.processors.behind_label.Goals as goal

pub returns-in-None : goal.returns-in-None
returns-in-None c = λ has. absurd (false≢true (starts_text false (codes "Cpus_allowed_list:") c.args.line.now c.in-None.ensures.cases ∙ has))

pub returns-in-Some : goal.returns-in-Some
returns-in-Some c = λ has. c.in-Some.ensures.cases.2 ∙ ap (λ k. drop k c.args.line.now) c.in-Some.ensures.cases.1.0
