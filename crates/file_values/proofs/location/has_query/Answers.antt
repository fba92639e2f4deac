use Rattle.std.proofs.Common.{ap, ◌∙◌}
use Rattle.std.specs.Prelude.{is_some}
use Rattle.file_values.proofs.Urls.{copied}
use Rattle.file_values.proofs.location.has_query.Goals as goal

pub returns : goal.returns
returns c = c.is_some.ensures ∙ copied c.query.result ∙ ap is_some c.query.ensures.value
