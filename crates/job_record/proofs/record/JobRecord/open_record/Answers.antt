use Rattle.sqlite.specs.Held.{state}
use Rattle.job_record.proofs.OpenSafe.{opened_safe, kept_safe, opens_rows}
use Rattle.job_record.proofs.record.JobRecord.open_record.Goals as goal

pub returns-in-Ok-clause-safe : goal.returns-in-Ok-clause-safe
returns-in-Ok-clause-safe g c clean =
    opened_safe g.S.Store c.args.conn c.open_tables.new.conn g.met.S.Store.settled c.args.budget (c.in-Ok.ensures.opens clean) (c.in-Ok.ensures.map clean c.args.budget)

pub returns-in-Err-clause-safe_refused : goal.returns-in-Err-clause-safe_refused
returns-in-Err-clause-safe_refused g c clean =
    kept_safe g.S.Store c.args.conn c.open_tables.new.conn g.met.S.Store.settled clean (c.in-Err.ensures.map clean c.args.budget) c.in-Err.ensures.crash

pub returns-in-Ok-clause-rows : goal.returns-in-Ok-clause-rows
returns-in-Ok-clause-rows g c clean =
    opens_rows c.args.budget (state g.S.Store c.args.conn) (state g.S.Store c.open_tables.new.conn)
    (opened_safe g.S.Store c.args.conn c.open_tables.new.conn g.met.S.Store.settled c.args.budget (c.in-Ok.ensures.opens clean) (c.in-Ok.ensures.map clean c.args.budget))

pub returns-in-Err-clause-stays : goal.returns-in-Err-clause-stays
returns-in-Err-clause-stays g c clean = c.in-Err.ensures.map clean c.args.budget
