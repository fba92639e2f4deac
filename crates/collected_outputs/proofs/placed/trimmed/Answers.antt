use Rattle.std.proofs.Common.{Some, None, lit<, sym, ap, ◌∙◌}
use Rattle.std.proofs.lemmas.Str.Pattern.{strip_suffix_char}
use Rattle.collected_outputs.specs.Object.{without_last_slash}
use Rattle.collected_outputs.proofs.Placing.{slash_dropped, no_slash_kept}
use Rattle.collected_outputs.proofs.placed.trimmed.Goals as goal

pub returns-in-Some : goal.returns-in-Some
returns-in-Some c =
    let name = c.without_front-name.result.now in
    let cut = strip_suffix_char 47 name (Some c.in-Some.rest) c.in-Some.ensures.cases (lit< tt) in
    sym (ap without_last_slash (sym c.without_front-name.ensures ∙ cut) ∙ slash_dropped c.in-Some.rest.now)

pub returns-in-None : goal.returns-in-None
returns-in-None c =
    let name = c.without_front-name.result.now in
    let none = strip_suffix_char 47 name None c.in-None.ensures.cases (lit< tt) in
    sym (ap without_last_slash (sym c.without_front-name.ensures) ∙ no_slash_kept name none)
