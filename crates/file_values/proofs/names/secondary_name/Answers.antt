use Rattle.std.proofs.Common.{Some, None, lit<, sym, ap, ◌++◌, ◌∙◌, rules}
use Rattle.std.proofs.lemmas.Str.Pattern.{strip_prefix_char}
use Rattle.file_values.specs.Names.{beside}
use Rattle.file_values.proofs.Cuts.{beside-caret, beside-end}
use Rattle.file_values.proofs.names.secondary_name.Goals as goal

pub loop-others-preserved : goal.loop-others-preserved
loop-others-preserved c =
    let rest = c.loop-others.rest.now in
    let front = c.loop-others.front.now in
    let cut = strip_prefix_char 94 rest (Some c.in-Some.others) c.in-Some.ensures.cases (lit< tt) in
    (search rules, search rules, ap (beside c.in-Some.others.now) c.stem-front.ensures ∙ sym (beside-caret rest c.in-Some.others.now front cut) ∙ c.loop-others.invariant.2)

pub returns : goal.returns
returns c =
    let rest = c.loop-others.rest.now in
    let front = c.loop-others.front.now in
    let none = strip_prefix_char 94 rest None c.in_default.ensures.cases (lit< tt) in
    c.in_ok-push_str.ensures.bytes ∙ ap (λ n. n ++ rest) c.in_ok-name.ensures.ok ∙ beside-end rest front none ∙ c.loop-others.invariant.2
