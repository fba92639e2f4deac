use Rattle.std.proofs.Common.{rules}
use Rattle.process_machine.proofs.copying.fill_folder.Goals as goal
use Rattle.process_machine.proofs.copying.fill_folder.Goals.{in-Some+in_ok-from+in_ok-copied, in_default}

pub loop-entry-preserved : goal.loop-entry-preserved
loop-entry-preserved g c = elim c.match-name_in.branch [ in-Some+in_ok-from+in_ok-copied w ↦ search rules | in_default w ↦ rw w.made-is c.loop-entry.invariant ]
