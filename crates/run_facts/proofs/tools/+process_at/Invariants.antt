use Rattle.std.proofs.Common.{length}
use Rattle.run_facts.proofs.tools.+process_at.Given as goal

-- the steps that are left
abbrev pub decreases-process_at : goal.decreases-process_at
decreases-process_at l = length l.place.now
