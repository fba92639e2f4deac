use Rattle.std.proofs.Common.{◌≡◌, ◌++◌, ◌∷◌, None, lit<, sym, ap, ◌∙◌}
use Rattle.std.proofs.lemmas.List.{append_cancel_left}
use Rattle.std.proofs.lemmas.Str.Pattern.{strip_prefix_char}
use Rattle.process_machine.proofs.layout.name_below.Goals as goal

-- what is behind the folder has no slash at its front
pub returns-in_err-name-clause-every : goal.returns-in_err-name-clause-every
returns-in_err-name-clause-every c = λ name below.
    let folder = c.args.folder.now in
    let rest = c.in_ok-rest.rest.now in
    let found = c.in_ok-rest.ensures.cases in
    let on : c.args.path.now ≡ folder ++ rest = found.1.1 ∙ ap (λ l. folder ++ l) (sym found.2) in
    absurd (strip_prefix_char 47 rest None c.in_err-name.ensures.cases (lit< tt) name (append_cancel_left folder rest (47 ∷ name) (sym on ∙ below.path_is)))
