use Rattle.std.proofs.Common.{◌≡◌, IsTrue}
use Rattle.sqlite.specs.State.{HasCleanDisk}
use Rattle.sqlite.specs.Held.{state}
use Rattle.job_record.specs.Blame.{put_texts}
use Rattle.job_record.specs.inner.Inside.{GoesTo}
use Rattle.job_record.proofs.Walked.{HasWalked}
use Rattle.job_record.proofs.changes.lose.Given as goal

abbrev pub invariant-loop : goal.invariant-loop
invariant-loop g l = record {
  same : l.change.conn.ghost_name ≡ l.initial.change.conn.ghost_name;
  walked : HasWalked l.budget l.total l.initial.lost (state g.S.Store l.initial.change.conn.now) (state g.S.Store l.change.conn.now) l.lost l.left l.counter;
  traced : HasCleanDisk (state g.S.Store l.change.conn.now) → IsTrue (state g.S.Store l.initial.change.conn.now).in_transaction → GoesTo g.S.Store put_texts l.initial.change.conn.now l.change.conn.now;
}
