use Rattle.std.proofs.Common.{Some, None, lit<, sym, ◌∙◌, rules}
use Rattle.std.proofs.lemmas.Str.Pattern.{strip_suffix_char}
use Rattle.file_values.proofs.Cuts.{trimmed-step, trimmed-end}
use Rattle.input_files.proofs.names.without_last_slashes.Goals as goal

pub loop-front-preserved : goal.loop-front-preserved
loop-front-preserved c =
    let path = c.loop-front.whole.now in
    let cut = strip_suffix_char 47 path (Some c.in-Some.front) c.in-Some.ensures.cases (lit< tt) in
    (search rules, sym (trimmed-step path c.in-Some.front.now cut) ∙ c.loop-front.invariant.1)

pub returns : goal.returns
returns c =
    let path = c.loop-front.whole.now in
    trimmed-end path (strip_suffix_char 47 path None c.in_default.ensures.cases (lit< tt)) ∙ c.loop-front.invariant.1
