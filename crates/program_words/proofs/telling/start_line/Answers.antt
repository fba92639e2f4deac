use Rattle.std.proofs.Common.{◌∙◌, ◌++◌, ap, codes, string_bytes}
use Rattle.std.proofs.lemmas.Result.{IfOk-weaker}
use Rattle.program_words.proofs.JobLines.{five}
use Rattle.program_words.proofs.telling.start_line.Goals as goal

pub returns : goal.returns
returns c =
    let place = c.args.place.now in
    let counts = string_bytes c.in_ok-counts.counts in
    let words = string_bytes c.in_ok-words.words in
    IfOk-weaker c.format.result _ _
    (λ s is. (
      words,
      c.in_ok-words.ensures.read,
      is ∙ five (codes "start ") place counts (codes " ") words
          ∙ ap (λ k. codes "start " ++ place ++ k ++ codes " " ++ words) c.in_ok-counts.ensures,
    )) c.format.ensures.ok
