use Rattle.std.proofs.Common.{◌∙◌, ℕ, List, ap, sym}
use Rattle.std.specs.Prelude.{bytes_eq, position}
use Rattle.document_links.specs.declared.process.Step.{Step}
use Rattle.plan_waits.specs.Waiting.{number_at}
use Rattle.plan_waits.proofs.waiting.number_at.Goals as goal

pub returns-in-Some : goal.returns-in-Some
returns-in-Some c =
    c.number_of.ensures
    ∙ ap (λ (id : List ℕ). position (λ (step : List ℕ × Step). bytes_eq step.0 id) c.args.steps.now) c.as_str.ensures.bytes
    ∙ ap (number_at c.args.steps.now) (sym c.in-Some.is)
