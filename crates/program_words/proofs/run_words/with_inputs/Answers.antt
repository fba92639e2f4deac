use Rattle.std.proofs.Common.{◌∙◌, ap, codes, false}
use Rattle.clap.specs.Words.{App, with_rule}
use Rattle.program_words.specs.RunWords.{placed_rule}
use Rattle.program_words.proofs.run_words.with_inputs.Goals as goal

pub returns-clause-ok : goal.returns-clause-ok
returns-clause-ok c =
    c.in_ok-command-2.ensures.ok ∙ ap (λ (app : App). with_rule app (placed_rule (codes "INPUTS") false)) c.in_ok-command.ensures.ok
