use Rattle.std.proofs.Common.{Some, None, lit<}
use Rattle.std.proofs.lemmas.Str.Pattern.{strip_suffix_char}
use Rattle.file_values.proofs.Cuts.{required-some, required-none}
use Rattle.file_values.proofs.names.required.Goals as goal

pub returns-in-Some : goal.returns-in-Some
returns-in-Some c =
    required-some c.args.pattern.now c.in-Some.front.now (strip_suffix_char 63 c.args.pattern.now (Some c.in-Some.front) c.in-Some.ensures.cases (lit< tt))

pub returns-in-None : goal.returns-in-None
returns-in-None c =
    required-none c.args.pattern.now (strip_suffix_char 63 c.args.pattern.now None c.in-None.ensures.cases (lit< tt))
