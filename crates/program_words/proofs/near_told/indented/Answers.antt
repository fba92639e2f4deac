use Rattle.std.proofs.Common.{◌++◌, codes, string_bytes}
use Rattle.program_words.proofs.JobLines.{four, told}
use Rattle.program_words.proofs.near_told.indented.Goals as goal

pub returns : goal.returns
returns c =
    told string_bytes c.format.result _ (codes "  " ++ c.args.whose.now ++ c.args.words.now ++ codes "\n") c.format.ensures.ok
    (four (codes "  ") c.args.whose.now c.args.words.now (codes "\n"))
