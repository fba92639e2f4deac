use Rattle.sqlite.specs.Held.{state}
use Rattle.job_record.proofs.Stepping.{forget_step}
use Rattle.job_record.proofs.Traced.{meets_none, executed, not_executed}
use Rattle.job_record.specs.Statements.{forget_text, key_params}
use Rattle.job_record.proofs.tables.forget.Goals as goal

pub returns-in-Ok-clause-step : goal.returns-in-Ok-clause-step
returns-in-Ok-clause-step g c clean going = forget_step c.args.key.now (state g.S.Store c.args.change.now.conn.now) (state g.S.Store c.forget.new.change.conn.now) c.in-Ok.met (c.in-Ok.ensures.runs clean going)

pub returns-in-Ok-clause-cause : goal.returns-in-Ok-clause-cause
returns-in-Ok-clause-cause g c texts has clean going =
    executed g.S.Store texts forget_text has (key_params c.args.key.now) c.args.change.now.conn.now c.forget.new.change.conn.now c.in-Ok.met (c.in-Ok.ensures.runs clean going)

pub returns-in-Err-clause-cause : goal.returns-in-Err-clause-cause
returns-in-Err-clause-cause g c texts has clean going =
    not_executed g.S.Store texts forget_text has (key_params c.args.key.now) c.args.change.now.conn.now c.forget.new.change.conn.now c.in-Err.error (c.in-Err.ensures.runs clean going)

pub returns-in-Ok-clause-none : goal.returns-in-Ok-clause-none
returns-in-Ok-clause-none g c texts has clean going none = meets_none g.S.Store texts forget_text has (key_params c.args.key.now) c.args.change.now.conn.now c.forget.new.change.conn.now c.in-Ok.met (c.in-Ok.ensures.runs clean going) none
