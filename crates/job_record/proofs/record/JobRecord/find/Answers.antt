use Rattle.job_record.proofs.SafeCalls.{find_safe}
use Rattle.job_record.proofs.Answered.{finds_open}
use Rattle.job_record.proofs.record.JobRecord.find.Goals as goal

pub returns-clause-safe : goal.returns-clause-safe
returns-clause-safe g c clean =
    let look = c.look_up-answer in
    find_safe g.S.Store c.args.self.now.conn look.new.conn g.met.S.Store.settled c.args.key.now look.result (look.ensures.finds clean) (look.ensures.open clean) clean look.ensures.survives

pub returns-clause-open : goal.returns-clause-open
returns-clause-open g c clean =
    let look = c.look_up-answer in
    finds_open g.S.Store c.args.self.now.conn look.new.conn c.args.key.now look.result (look.ensures.finds clean)
