use Rattle.std.proofs.Common.{Some, None, lit<, sym, ◌∙◌}
use Rattle.std.proofs.lemmas.Str.Pattern.{rfind_char}
use Rattle.param_refs.proofs.Folders.{dirname-at, dirname-none}
use Rattle.param_refs.proofs.keys.folder_of.Goals as goal

pub returns-in-None : goal.returns-in-None
returns-in-None c = sym (dirname-none c.args.path.now (rfind_char 47 c.args.path.now None c.in-None.ensures.cases (lit< tt)))

pub returns-in-Some : goal.returns-in-Some
returns-in-Some c =
    let found = rfind_char 47 c.args.path.now (Some c.in-Some.at) c.in-Some.ensures.cases (lit< tt) in
    c.split_at.ensures.front ∙ sym (dirname-at c.args.path.now c.in-Some.at found.0 found.1 found.2)
