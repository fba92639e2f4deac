use Rattle.std.proofs.Common.{◌∙◌}
use Rattle.serde_json.specs.View.{view}
use Rattle.document_links.specs.Library.{finds_in}
use Rattle.resource_hints.proofs.Walked.{nothing_of, told_whole}
use Rattle.resource_hints.proofs.tools.resources_of.Goals as goal

pub returns-in-None : goal.returns-in-None
returns-in-None c =
    let find = finds_in c.look_up-library.result.now in
    let read = c.in-None.ensures in
    (read.0, read.1, (find, c.look_up-library.ensures, c.new.ensures ∙ nothing_of find c.args.base.now read.0 read.2))

pub returns-in-Some : goal.returns-in-Some
returns-in-Some c =
    let read = c.in-Some.ensures in
    told_whole c.args.document.now c.args.base.now c.args.docs.now (finds_in c.look_up-library.result.now) (view c.in-Some.found.now.json) read.0 c.asked_of.result c.look_up-library.ensures read.1 read.2 c.asked_of.ensures
