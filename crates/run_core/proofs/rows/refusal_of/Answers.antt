use Rattle.std.proofs.Common.{◌∙◌, None, Some, sym, ap, subst}
use Rattle.run_rules.specs.declared.request.RecordAnswer.{RecordAnswer}
use Rattle.run_core.specs.inner.Picks.{Tells, has_none, refuses}
use Rattle.run_core.proofs.rows.refusal_of.Goals as goal

pub returns-in-None : goal.returns-in-None
returns-in-None c =
    subst (λ (answer : RecordAnswer). Tells c.args.tool.now answer None) (sym (c.in-Found.is ∙ ap RecordAnswer.Found c.in-None.is)) has_none

pub returns-in-Refused : goal.returns-in-Refused
returns-in-Refused c =
    subst (λ (answer : RecordAnswer). Tells c.args.tool.now answer (Some c.in-Refused.refusal)) (sym c.in-Refused.is) (refuses c.in-Refused.refusal)
