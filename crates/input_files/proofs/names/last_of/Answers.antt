use Rattle.std.proofs.Common.{Some, None, lit<, ◌∙◌}
use Rattle.std.proofs.lemmas.Str.Pattern.{rfind_char}
use Rattle.file_values.proofs.Cuts.{after-at, after-none}
use Rattle.input_files.proofs.names.last_of.Goals as goal

pub returns-in-Some : goal.returns-in-Some
returns-in-Some c =
    let path = c.args.path.now in
    let found = rfind_char 47 path (Some c.in-Some.at) c.in-Some.ensures.cases (lit< tt) in
    c.range_from.ensures.value ∙ after-at path c.in-Some.at found.0 found.1 found.2

pub returns-in-None : goal.returns-in-None
returns-in-None c =
    let path = c.args.path.now in
    after-none path (rfind_char 47 path None c.in-None.ensures.cases (lit< tt))
