use Rattle.std.proofs.Common.{take}
use Rattle.job_record.specs.Columns.{AreRowsOf}
use Rattle.job_record.proofs.commands.read_rows.Given as goal

abbrev pub invariant-loop-columns : goal.invariant-loop-columns
invariant-loop-columns l = AreRowsOf (take l.columns-index l.all) l.rows.items
