use Rattle.std.proofs.Common.{◌∙◌, ◌+◌, List, [], ap, ap₂, cond, unwrap_or, Option}
use Rattle.std.specs.Prelude.{◌==◌, ◌&&◌}
use Rattle.plain_data.specs.ByName.{value_at, with_value}
use Rattle.job_graph.specs.Words.{Name}
use Rattle.job_graph.specs.declared.readers.Awaited.{Awaited}
use Rattle.job_graph.specs.inner.Counts.{waits_for}
use Rattle.job_graph.proofs.Reading.{awaits_under}
use Rattle.job_graph.proofs.readers.await_output.Goals as goal

pub returns : goal.returns
returns c =
    awaits_under c.args.awaited.now c.insert.new.self c.insert-2.new.self c.args.id.now c.args.name.now c.args.number c.in_ok-outputs.outputs
    (c.in_ok-taken.ensures.new ∙ ap₂ (λ (id : Name) (none : List Awaited). with_value id none c.args.awaited.now) c.in_ok-copied.ensures c.new.ensures)
    (λ test m. c.in_ok-outputs.ensures test m
    ∙ ap (λ (found : Option (List Awaited)). waits_for test m (unwrap_or found []) + cond (c.args.number == m && test c.args.name.now) 1 0) (c.in_ok-taken.ensures.old ∙ ap (λ (id : Name). value_at id c.args.awaited.now) c.in_ok-copied.ensures))
    (c.in_ok-insert.ensures.new ∙ ap (λ (id : Name). with_value id c.in_ok-outputs.outputs c.insert.new.self) c.in_ok-copied-2.ensures)
