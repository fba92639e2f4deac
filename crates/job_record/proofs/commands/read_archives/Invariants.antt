use Rattle.std.proofs.Common.{take}
use Rattle.job_record.specs.Archives.{AreArchivesIn}
use Rattle.job_record.proofs.commands.read_archives.Given as goal

abbrev pub invariant-loop-columns : goal.invariant-loop-columns
invariant-loop-columns l = AreArchivesIn (take l.columns-index l.all) l.archives.items
