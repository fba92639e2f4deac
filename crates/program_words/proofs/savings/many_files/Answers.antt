use Rattle.std.proofs.Common.{◌++◌, ap, codes, string_bytes}
use Rattle.program_words.specs.Savings.{many_files}
use Rattle.program_words.proofs.JobLines.{told}
use Rattle.program_words.proofs.savings.many_files.Goals as goal

pub returns : goal.returns
returns c =
    told string_bytes c.format.result _ (many_files c.args.files) c.format.ensures.ok
    (ap (λ x. x ++ codes " files delivered") c.in_ok-number.ensures)
