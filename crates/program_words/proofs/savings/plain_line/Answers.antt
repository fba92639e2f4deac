use Rattle.std.proofs.Common.{string_bytes}
use Rattle.program_words.specs.Savings.{computed_words, files_words, jobs_words, plain_line, time_words}
use Rattle.program_words.proofs.JobLines.{told}
use Rattle.program_words.proofs.SavingsLine.{plain_so}
use Rattle.program_words.proofs.savings.plain_line.Goals as goal

pub returns : goal.returns
returns c =
    let savings = c.args.savings.now in
    told string_bytes c.format.result _ (plain_line savings) c.format.ensures.ok
    (plain_so (jobs_words savings.jobs) (computed_words savings) (time_words savings.millis) (files_words savings.delivered)
    (string_bytes c.in_ok-jobs.jobs) (string_bytes c.in_ok-computed.computed) (string_bytes c.in_ok-time.time) (string_bytes c.in_ok-files.files)
    c.in_ok-jobs.ensures c.in_ok-computed.ensures c.in_ok-time.ensures c.in_ok-files.ensures)
