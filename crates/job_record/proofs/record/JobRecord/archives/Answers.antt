use Rattle.job_record.proofs.ArchivesHeld.{archives_safe}
use Rattle.job_record.proofs.record.JobRecord.archives.Goals as goal

pub returns-clause-safe : goal.returns-clause-safe
returns-clause-safe g c clean =
    let read = c.archives_of in
    archives_safe g.S.Store c.args.self.now.conn read.new.conn g.met.S.Store.settled read.result (read.ensures.lists clean) (read.ensures.open clean) clean read.ensures.survives
