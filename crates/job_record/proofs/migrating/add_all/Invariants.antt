use Rattle.std.proofs.Common.{◌≡◌, take}
use Rattle.job_record.proofs.Adding.{HasAdded}
use Rattle.job_record.proofs.migrating.add_all.Given as goal

abbrev pub invariant-loop-columns : goal.invariant-loop-columns
invariant-loop-columns g l = record {
  same : l.change.conn.ghost_name ≡ l.initial.change.conn.ghost_name;
  added : HasAdded g.S.Store l.initial.change.conn.now l.change.conn.now (take l.columns-index l.archived) l.used;
}
