use Rattle.std.proofs.Common.{◌∙◌, ap, string_bytes}
use Rattle.program_words.specs.Savings.{computed_words, effect_words, grouped, jobs_words, not_needed, reuse_line}
use Rattle.program_words.proofs.JobLines.{told}
use Rattle.program_words.proofs.SavingsLine.{line_so}
use Rattle.program_words.proofs.savings.reuse_line.Goals as goal

pub returns : goal.returns
returns c =
    let savings = c.args.savings.now in
    told string_bytes c.format.result _ (reuse_line savings) c.format.ensures.ok
    (line_so (jobs_words savings.jobs) (grouped savings.loaded) (computed_words savings) (grouped (not_needed savings)) (effect_words savings)
    (string_bytes c.in_ok-jobs.jobs) (string_bytes c.in_ok-loaded.loaded) (string_bytes c.in_ok-computed.computed) (string_bytes c.in_ok-rest.rest)
    (string_bytes c.in_ok-effect.effect)
    c.in_ok-jobs.ensures c.in_ok-loaded.ensures c.in_ok-computed.ensures (c.in_ok-rest.ensures ∙ ap grouped c.not_needed.ensures)
    c.in_ok-effect.ensures)
