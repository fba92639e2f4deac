use Rattle.std.proofs.Common.{◌∙◌, ◌++◌, ap, codes, string_bytes}
use Rattle.std.specs.Prelude.{decimal}
use Rattle.program_words.specs.JobLines.{counts_words, end_line}
use Rattle.program_words.proofs.JobLines.{eight, told}
use Rattle.program_words.proofs.telling.end_line.Goals as goal

pub returns : goal.returns
returns c =
    let end = c.args.end.now in
    let place = c.args.place.now in
    let counts = string_bytes c.in_ok-counts.counts in
    let how = string_bytes c.in_ok-how.how in
    let millis = decimal end.millis in
    told string_bytes c.format.result _ (end_line place c.args.counts end) c.format.ensures.ok
    (eight (codes "end ") place counts (codes " ") how (codes ", ") millis (codes " ms")
    ∙ ap (λ k. codes "end " ++ place ++ k ++ codes " " ++ how ++ codes ", " ++ millis ++ codes " ms") c.in_ok-counts.ensures
    ∙ ap (λ h. codes "end " ++ place ++ counts_words c.args.counts ++ codes " " ++ h ++ codes ", " ++ millis ++ codes " ms") c.in_ok-how.ensures)
