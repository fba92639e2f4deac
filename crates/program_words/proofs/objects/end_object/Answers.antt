use Rattle.std.proofs.Common.{◌∙◌, ◌++◌, ap, codes, string_bytes}
use Rattle.std.specs.Prelude.{decimal}
use Rattle.program_words.specs.JobObjects.{end_object}
use Rattle.program_words.proofs.JobLines.{nine, told}
use Rattle.program_words.proofs.objects.end_object.Goals as goal

pub returns : goal.returns
returns c =
    let end = c.args.end.now in
    let place = c.args.place.now in
    let code = string_bytes c.in_ok-code.code in
    let front = codes "{\"event\":\"end\",\"place\":" in
    let number = decimal end.ticket in
    let millis = decimal end.millis in
    told string_bytes c.format.result _ (end_object place end) c.format.ensures.ok
    (nine front place (codes ",\"number\":") number (codes ",\"code\":") code (codes ",\"milliseconds\":") millis (codes "}")
    ∙ ap (λ x. front ++ place ++ codes ",\"number\":" ++ number ++ codes ",\"code\":" ++ x ++ codes ",\"milliseconds\":" ++ millis ++ codes "}")
    c.in_ok-code.ensures)
