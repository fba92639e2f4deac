use Rattle.std.proofs.Common.{◌≡◌, Some, subst}
use Rattle.plain_data.specs.ByName.{value_at}
use Rattle.document_links.specs.inner.Sound.{IsSoundReading}
use Rattle.document_links.proofs.target.read_at.Goals as goal

pub returns-in-Some-Sound-clause-process : goal.returns-in-Some-Sound-clause-process
returns-in-Some-Sound-clause-process c sound =
    let held : value_at c.url_text.result.now c.args.readings.now ≡ Some c.in-Some-Sound.field-0.now = cc (c.in-Some-Sound.ensures) in
    subst IsSoundReading c.in-Some-Sound.field-0-is (sound c.url_text.result.now c.in-Some-Sound.field-0.now held)
