use Rattle.std.proofs.Common.{◌∙◌, ◌++◌, ◌/◌, ◌%◌, ap, codes, string_bytes}
use Rattle.std.specs.Prelude.{decimal}
use Rattle.program_words.specs.Savings.{with_comma}
use Rattle.program_words.proofs.JobLines.{four, told}
use Rattle.program_words.proofs.savings.with_comma.Goals as goal

pub returns : goal.returns
returns c =
    let front = decimal (c.args.number / 1000) in
    let back = decimal (c.args.number % 1000) in
    told string_bytes c.format.result _ (with_comma c.args.number) c.format.ensures.ok
    (four front (codes ",") c.zeros_before-zeros.result.now back ∙ ap (λ z. front ++ codes "," ++ z ++ back) c.zeros_before-zeros.ensures)
