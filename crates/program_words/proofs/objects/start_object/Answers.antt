use Rattle.std.proofs.Common.{codes, string_bytes}
use Rattle.std.specs.Prelude.{decimal}
use Rattle.program_words.specs.JobObjects.{start_object}
use Rattle.program_words.proofs.JobLines.{seven, told}
use Rattle.program_words.proofs.objects.start_object.Goals as goal

pub returns : goal.returns
returns c =
    let place = c.args.place.now in
    let command = c.args.command.now in
    told string_bytes c.format.result _ (start_object place c.args.number command) c.format.ensures.ok
    (seven (codes "{\"event\":\"start\",\"place\":") place (codes ",\"number\":") (decimal c.args.number) (codes ",\"command\":") command (codes "}"))
