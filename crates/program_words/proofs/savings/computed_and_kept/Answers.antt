use Rattle.std.proofs.Common.{◌∙◌, ◌++◌, ap, codes, string_bytes}
use Rattle.program_words.specs.Savings.{computed_and_kept, grouped, only_computed}
use Rattle.program_words.proofs.JobLines.{four, told}
use Rattle.program_words.proofs.savings.computed_and_kept.Goals as goal

pub returns : goal.returns
returns c =
    let number = string_bytes c.in_ok-number.number in
    let rest = string_bytes c.in_ok-rest.rest in
    told string_bytes c.format.result _ (computed_and_kept c.args.computed c.args.kept) c.format.ensures.ok
    (four number (codes ", ") rest (codes " kept")
    ∙ ap (λ x. x ++ codes ", " ++ rest ++ codes " kept") c.in_ok-number.ensures
    ∙ ap (λ x. only_computed c.args.computed ++ codes ", " ++ x ++ codes " kept") c.in_ok-rest.ensures)
