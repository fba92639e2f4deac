use Rattle.std.proofs.Common.{Some, None, lit<, ap, ◌∙◌}
use Rattle.std.specs.List.{after_last}
use Rattle.std.proofs.lemmas.Str.Pattern.{rfind_char}
use Rattle.file_values.specs.Names.{is_slash}
use Rattle.file_values.proofs.Cuts.{after-at, after-none}
use Rattle.file_values.proofs.names.last_component.Goals as goal

pub returns-in-Some : goal.returns-in-Some
returns-in-Some c =
    let whole = c.without_last_slashes-whole.result.now in
    let found = rfind_char 47 whole (Some c.in-Some.at) c.in-Some.ensures.cases (lit< tt) in
    c.range_from.ensures.value ∙ after-at whole c.in-Some.at found.0 found.1 found.2 ∙ ap (after_last is_slash) c.without_last_slashes-whole.ensures

pub returns-in-None : goal.returns-in-None
returns-in-None c =
    let whole = c.without_last_slashes-whole.result.now in
    after-none whole (rfind_char 47 whole None c.in-None.ensures.cases (lit< tt)) ∙ ap (after_last is_slash) c.without_last_slashes-whole.ensures
