use Rattle.std.proofs.Common.{ap, ◌∙◌, codes}
use Rattle.std.specs.Prelude.{bytes_eq}
use Rattle.file_values.proofs.Urls.{of_files}
use Rattle.file_values.proofs.location.is_of_files.Goals as goal

pub returns : goal.returns
returns c = c.eq.ensures ∙ ap (λ s. bytes_eq s (codes "file")) c.scheme.ensures.value ∙ of_files c.args.url.now.scheme
