use Rattle.std.proofs.Common.{Some, None, lit<, ◌∙◌}
use Rattle.std.proofs.lemmas.Str.Pattern.{rfind_char}
use Rattle.run_facts.proofs.Names.{name_at, no_name}
use Rattle.run_facts.proofs.made_by.after_name.Goals as goal

pub returns-in-Some : goal.returns-in-Some
returns-in-Some c =
    let stat = c.args.stat.now in
    let found = rfind_char 41 stat (Some c.in-Some.at) c.in-Some.ensures.cases (lit< tt) in
    c.range_from.ensures.value ∙ name_at stat c.in-Some.at found.0 found.1 found.2

pub returns-in-None : goal.returns-in-None
returns-in-None c =
    let stat = c.args.stat.now in
    no_name stat (rfind_char 41 stat None c.in-None.ensures.cases (lit< tt))
