use Rattle.std.proofs.Common.{◌∙◌, ap, codes}
use Rattle.std.proofs.lemmas.Result.{IfOk-weaker}
use Rattle.clap.specs.Words.{App, with_rule}
use Rattle.program_words.specs.Flags.{flag_rule}
use Rattle.program_words.proofs.run_words.with_store.Goals as goal

pub returns-clause-ok : goal.returns-clause-ok
returns-clause-ok c =
    IfOk-weaker c.with_flag.result _ _ (λ whole h. h ∙ ap (λ (app : App). with_rule app (flag_rule (codes "trust-times"))) c.in_ok-command.ensures.ok) c.with_flag.ensures.ok
