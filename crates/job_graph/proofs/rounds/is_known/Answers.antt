use Rattle.std.proofs.Common.{◌∙◌, ap, ap₂, sym}
use Rattle.std.specs.Prelude.{is_some}
use Rattle.plain_data.specs.ByName.{value_at}
use Rattle.job_graph.specs.Links.{out_under}
use Rattle.job_graph.specs.Words.{Name}
use Rattle.job_graph.specs.inner.Rounds.{is_there}
use Rattle.job_graph.proofs.rounds.is_known.Goals as goal

pub returns-in-Some : goal.returns-in-Some
returns-in-Some c =
    c.has_output.ensures
    ∙ ap₂ (λ (step name : Name). is_some (out_under name (value_at step c.args.env.now))) c.as_str.ensures.bytes c.as_str-in-Some.ensures.bytes
    ∙ sym (ap (λ step. is_there c.args.env.now step c.args.source.now.name) c.in-Some.is)
