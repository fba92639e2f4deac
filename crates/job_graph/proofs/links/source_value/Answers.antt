use Rattle.std.proofs.Common.{◌∙◌, ap, sym}
use Rattle.job_graph.specs.Links.{value_from}
use Rattle.job_graph.proofs.links.source_value.Goals as goal

pub returns-in_ok-copied-in-Some : goal.returns-in_ok-copied-in-Some
returns-in_ok-copied-in-Some c =
    c.in_ok-copied-in-Some.ensures ∙ c.step_value-found.ensures
    ∙ rw (c.as_str-in-Some.ensures.bytes, c.as_str-in-Some-2.ensures.bytes) (sym (ap (λ step. value_from step c.args.source.now.name c.args.inputs.now c.args.env.now) c.in-Some.is))
