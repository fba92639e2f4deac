use Rattle.std.proofs.Common.{◌∙◌, ◌++◌, ap, codes, string_bytes}
use Rattle.std.specs.Prelude.{decimal}
use Rattle.program_words.specs.Progress.{counted}
use Rattle.program_words.proofs.JobLines.{eight, told}
use Rattle.program_words.proofs.progress.counted.Goals as goal

pub returns : goal.returns
returns c =
    let counts = c.args.counts in
    let front = decimal counts.done ++ codes " of " ++ decimal counts.known ++ codes " jobs done, " ++ decimal counts.running ++ codes " running, " in
    told string_bytes c.format.result _ (counted counts) c.format.ensures.ok
    (eight (decimal counts.done) (codes " of ") (decimal counts.known) (codes " jobs done, ") (decimal counts.running) (codes " running, ")
    (decimal c.left_of-left.result) (codes " left")
    ∙ ap (λ x. front ++ decimal x ++ codes " left") c.left_of-left.ensures)
