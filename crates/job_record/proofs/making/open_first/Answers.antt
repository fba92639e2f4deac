use Rattle.job_record.proofs.Chain.{was_clean}
use Rattle.job_record.proofs.Found.{first_opens, first_survives}
use Rattle.job_record.proofs.making.open_first.Goals as goal

pub returns-clause-opens : goal.returns-clause-opens
returns-clause-opens g c clean =
    first_opens g.S.Store c.args.conn.now c.is_first.new.conn c.migrate.new.conn (c.in_ok-is_first.ensures.reads (was_clean _ _ _ c.migrate.ensures.survives clean)) c.migrate.result (c.migrate.ensures.migrates clean)

pub returns-clause-survives : goal.returns-clause-survives
returns-clause-survives g c =
    first_survives g.S.Store c.args.conn.now c.is_first.new.conn c.migrate.new.conn (λ clean. c.in_ok-is_first.ensures.reads (was_clean _ _ _ c.migrate.ensures.survives clean)) c.is_first.ensures.survives c.migrate.ensures.survives
