use Rattle.std.proofs.Common.{◌++◌, ap, codes, string_bytes}
use Rattle.program_words.specs.Savings.{only_computed}
use Rattle.program_words.proofs.JobLines.{told}
use Rattle.program_words.proofs.savings.only_computed.Goals as goal

pub returns : goal.returns
returns c =
    told string_bytes c.format.result _ (only_computed c.args.computed) c.format.ensures.ok
    (ap (λ x. x ++ codes " computed") c.in_ok-number.ensures)
