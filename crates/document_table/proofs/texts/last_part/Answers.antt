use Rattle.std.proofs.Common.{Some, None, lit<, ◌∙◌}
use Rattle.std.proofs.lemmas.Str.Pattern.{rfind_char}
use Rattle.document_table.proofs.Cuts.{after-at, after-none}
use Rattle.document_table.proofs.texts.last_part.Goals as goal

pub returns-in-Some : goal.returns-in-Some
returns-in-Some c =
    let text = c.args.text.now in
    let found = rfind_char 47 text (Some c.in-Some.at) c.in-Some.ensures.cases (lit< tt) in
    c.range_from.ensures.value ∙ after-at text c.in-Some.at found.0 found.1 found.2

pub returns-in-None : goal.returns-in-None
returns-in-None c =
    let text = c.args.text.now in
    after-none text (rfind_char 47 text None c.in-None.ensures.cases (lit< tt))
