use Rattle.collected_outputs.proofs.ObjectRead.{value_fields, no_fields}
use Rattle.collected_outputs.proofs.object.read_fields.Goals as goal

pub returns-in-Ok-clause-ok : goal.returns-in-Ok-clause-ok
returns-in-Ok-clause-ok c = rw (value_fields c.args.bytes.now c.in-Ok.value c.in-Ok.ensures) c.fields_in.ensures.ok

pub returns-in-Ok-clause-err : goal.returns-in-Ok-clause-err
returns-in-Ok-clause-err c = rw (value_fields c.args.bytes.now c.in-Ok.value c.in-Ok.ensures) c.fields_in.ensures.err

pub returns-in-Err-clause-err : goal.returns-in-Err-clause-err
returns-in-Err-clause-err c = rw c.stop_of.ensures (no_fields c.args.bytes.now c.in-Err.refusal c.in-Err.ensures)
