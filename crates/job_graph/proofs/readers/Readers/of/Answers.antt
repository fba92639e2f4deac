use Rattle.std.proofs.Common.{◌∙◌, ap}
use Rattle.plain_data.specs.ByName.{with_value}
use Rattle.job_graph.specs.Words.{Name}
use Rattle.job_graph.proofs.Reading.{table_more}
use Rattle.job_graph.proofs.readers.Readers.of.Goals as goal

pub loop-number-preserved : goal.loop-number-preserved
loop-number-preserved c =
    table_more c.as_slice-entries.result.now c.loop-number.number c.index-entries-number.result c.loop-number-test.true c.index-entries-number.is c.loop-number.readers
    (record { numbers = c.insert.new.self; rows = c.note_step.new.rows; awaited = c.await_step.new.awaited }) c.loop-number.invariant
    (c.in_ok-insert.ensures.new ∙ ap (λ (id : Name). with_value id c.loop-number.number c.loop-number.readers.numbers) c.in_ok-id.ensures) c.in_ok-note_step.ensures c.in_ok-await_step.ensures
