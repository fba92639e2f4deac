use Rattle.std.proofs.Common.{string_bytes}
use Rattle.program_words.specs.Savings.{effect_words, files_words, gain_words, time_words}
use Rattle.program_words.proofs.JobLines.{told}
use Rattle.program_words.proofs.SavingsLine.{effect_so}
use Rattle.program_words.proofs.savings.effect_words.Goals as goal

pub returns : goal.returns
returns c =
    let savings = c.args.savings.now in
    told string_bytes c.format.result _ (effect_words savings) c.format.ensures.ok
    (effect_so (time_words savings.millis) (gain_words savings.gained) (files_words savings.delivered)
    (string_bytes c.in_ok-time.time) (string_bytes c.in_ok-gain.gain) (string_bytes c.in_ok-files.files)
    c.in_ok-time.ensures c.in_ok-gain.ensures c.in_ok-files.ensures)
