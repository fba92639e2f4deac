use Rattle.std.proofs.Common.{Some, None, lit<, ◌∙◌}
use Rattle.std.proofs.lemmas.Str.Pattern.{rfind_char}
use Rattle.file_values.proofs.Cuts.{after-at, after-none}
use Rattle.collected_outputs.proofs.values.basename_of.Goals as goal

pub returns-in-Some : goal.returns-in-Some
returns-in-Some c =
    let name = c.args.name.now in
    let found = rfind_char 47 name (Some c.in-Some.at) c.in-Some.ensures.cases (lit< tt) in
    c.range_from.ensures.value ∙ after-at name c.in-Some.at found.0 found.1 found.2

pub returns-in-None : goal.returns-in-None
returns-in-None c =
    let name = c.args.name.now in
    after-none name (rfind_char 47 name None c.in-None.ensures.cases (lit< tt))
