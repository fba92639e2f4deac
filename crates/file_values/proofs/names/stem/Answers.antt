use Rattle.std.proofs.Common.{◌≡◌, ◌-◌, Some, None, lit<, take, ap, ◌∙◌, arith}
use Rattle.std.proofs.lemmas.Str.Pattern.{rfind_char}
use Rattle.file_values.proofs.Cuts.{stem-at, stem-none}
use Rattle.file_values.proofs.names.stem.Goals as goal

pub returns-in-Some : goal.returns-in-Some
returns-in-Some c =
    let name = c.args.name.now in
    let found = rfind_char 46 name (Some c.in-Some.at) c.in-Some.ensures.cases (lit< tt) in
    let cut : c.in-Some.at - 0 ≡ c.in-Some.at = omega arith in
    c.range.ensures.value ∙ ap (λ n. take n name) cut ∙ stem-at name c.in-Some.at found.0 found.1 found.2

pub returns-in-None : goal.returns-in-None
returns-in-None c =
    let name = c.args.name.now in
    stem-none name (rfind_char 46 name None c.in-None.ensures.cases (lit< tt))
