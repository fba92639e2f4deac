use Rattle.sqlite.specs.Held.{state}
use Rattle.record_program.proofs.LeavesOthers.{record_of}
use Rattle.record_program.proofs.LosesFirst.{knows_lost, knows_none}
use Rattle.record_program.proofs.trimming.keys_to_lose.Goals as goal

pub returns-in-Ok-clause-holds : goal.returns-in-Ok-clause-holds
returns-in-Ok-clause-holds g c clean map it =
    let old = state g.S.Store c.args.kept.now.conn in
    let new = state g.S.Store c.archives.new.self.conn in
    knows_lost c.args.budget map old new it c.in-Ok.archives c.picked.result (c.in-Ok.ensures.map clean (record_of old map it) map it.holds) c.picked.ensures.ok c.picked.ensures.err

pub returns-in-Err-clause-holds : goal.returns-in-Err-clause-holds
returns-in-Err-clause-holds g c clean map it =
    let old = state g.S.Store c.args.kept.now.conn in
    let new = state g.S.Store c.archives.new.self.conn in
    knows_none c.args.budget map old new it c.in-Err.fault (c.in-Err.ensures.map clean (record_of old map it) map it.holds)
