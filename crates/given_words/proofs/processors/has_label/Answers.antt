use Rattle.std.proofs.Common.{codes}
use Rattle.std.proofs.lemmas.Str.Pattern.{starts_text}
use Rattle.given_words.proofs.processors.has_label.Goals as goal

pub returns : goal.returns
returns c = starts_text c.starts_with.result (codes "Cpus_allowed_list:") c.args.line.now c.starts_with.ensures.cases
