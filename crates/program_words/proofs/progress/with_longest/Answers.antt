use Rattle.std.proofs.Common.{◌∙◌, ◌++◌, ap, codes, string_bytes}
use Rattle.std.specs.Prelude.{decimal}
use Rattle.program_words.specs.Progress.{counted, with_longest}
use Rattle.program_words.proofs.JobLines.{six, told}
use Rattle.program_words.proofs.progress.with_longest.Goals as goal

pub returns : goal.returns
returns c =
    let longest = c.args.longest in
    let front = string_bytes c.in_ok-counted.counted in
    let place = string_bytes c.in_ok-place.place in
    let seconds = decimal longest.seconds in
    told string_bytes c.format.result _ (with_longest c.args.counts longest) c.format.ensures.ok
    (six front (codes "; ") place (codes " ") seconds (codes " s")
    ∙ ap (λ x. x ++ codes "; " ++ place ++ codes " " ++ seconds ++ codes " s") c.in_ok-counted.ensures
    ∙ ap (λ x. counted c.args.counts ++ codes "; " ++ x ++ codes " " ++ seconds ++ codes " s") c.in_ok-place.ensures)
