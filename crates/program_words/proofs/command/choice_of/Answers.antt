use Rattle.std.proofs.Common.{rules, inl, ◌≡◌, IfErr}
use Rattle.std.proofs.lemmas.Result.{IfErr-weaker}
use Rattle.clap.specs.Words.{kind_of}
use Rattle.clap.specs.declared.error.ErrorKind.TheVariants.{OutOfMemory}
use Rattle.program_words.proofs.CommandLines.{asked, refused_by}
use Rattle.program_words.proofs.command.choice_of.Goals as goal

pub returns-in_err-command-clause-err : goal.returns-in_err-command-clause-err
returns-in_err-command-clause-err c =
    let memory : IfErr c.from_residual.result (λ e. kind_of e ≡ OutOfMemory) = search rules in
    IfErr-weaker c.from_residual.result _ _ (λ e h. inl h) memory

pub returns-in_err-matches-clause-err : goal.returns-in_err-matches-clause-err
returns-in_err-matches-clause-err c =
    let refused = refused_by _ _ c.in_err-matches.field-0.0 c.in_ok-command.ensures.ok c.in_err-matches.ensures.kinds in
    search rules

pub returns-clause-ok : goal.returns-clause-ok
returns-clause-ok c =
    asked _ _ _ _ c.in_ok-command.ensures.ok (λ h. (c.in_ok-matches.ensures.matches h).1) c.in_ok-matches.ensures.kinds c.chosen.ensures
