use Rattle.std.proofs.Common.{take}
use Rattle.job_record.specs.Columns.{AreKeysOf}
use Rattle.job_record.proofs.commands.read_keys.Given as goal

abbrev pub invariant-loop-columns : goal.invariant-loop-columns
invariant-loop-columns l = AreKeysOf (take l.columns-index l.all) l.keys.items
