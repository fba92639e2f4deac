use Rattle.std.proofs.Common.{◌∙◌, sym, ap}
use Rattle.run_rules.specs.Delivered.{has_file}
use Rattle.run_core.proofs.Holding.{fields_have}
use Rattle.run_core.proofs.files.+holding.Goals as goal

pub has_file-returns-in-Fields : goal.has_file-returns-in-Fields
has_file-returns-in-Fields t c = c.fields_have_file.ensures ∙ sym (fields_have c.in-Fields.fields) ∙ ap has_file (sym c.in-Fields.is)
