use Rattle.job_record.proofs.SafeCalls.{list_safe}
use Rattle.job_record.proofs.record.JobRecord.list.Goals as goal

pub returns-clause-safe : goal.returns-clause-safe
returns-clause-safe g c clean =
    let read = c.read_all in
    list_safe g.S.Store c.args.self.now.conn read.new.conn g.met.S.Store.settled read.result (read.ensures.lists clean) (read.ensures.open clean) clean read.ensures.survives
