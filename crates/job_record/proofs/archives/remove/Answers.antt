use Rattle.sqlite.specs.Held.{state}
use Rattle.job_record.proofs.Stepping.{remove_step}
use Rattle.job_record.proofs.Traced.{executed, not_executed}
use Rattle.job_record.specs.Archives.{remove_text}
use Rattle.job_record.specs.Statements.{key_params}
use Rattle.job_record.proofs.archives.remove.Goals as goal

pub returns-in-Ok-clause-step : goal.returns-in-Ok-clause-step
returns-in-Ok-clause-step g c clean going = remove_step c.args.key.now (state g.S.Store c.args.change.now.conn.now) (state g.S.Store c.remove.new.change.conn.now) c.in-Ok.field-0 (c.in-Ok.ensures.runs clean going)

pub returns-in-Ok-clause-cause : goal.returns-in-Ok-clause-cause
returns-in-Ok-clause-cause g c texts has clean going =
    executed g.S.Store texts remove_text has (key_params c.args.key.now) c.args.change.now.conn.now c.remove.new.change.conn.now c.in-Ok.field-0 (c.in-Ok.ensures.runs clean going)

pub returns-in-Err-clause-cause : goal.returns-in-Err-clause-cause
returns-in-Err-clause-cause g c texts has clean going =
    not_executed g.S.Store texts remove_text has (key_params c.args.key.now) c.args.change.now.conn.now c.remove.new.change.conn.now c.in-Err.error (c.in-Err.ensures.runs clean going)
