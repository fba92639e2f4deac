use Rattle.std.proofs.Common.{◌/◌, ◌%◌, codes, string_bytes}
use Rattle.std.specs.Prelude.{decimal}
use Rattle.program_words.specs.Savings.{seconds_words}
use Rattle.program_words.proofs.JobLines.{four, told}
use Rattle.program_words.proofs.savings.seconds_words.Goals as goal

pub returns : goal.returns
returns c =
    told string_bytes c.format.result _ (seconds_words c.args.millis) c.format.ensures.ok
    (four (decimal (c.args.millis / 1000)) (codes ".") (decimal (c.args.millis % 1000 / 100)) (codes " s"))
