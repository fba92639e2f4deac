use Rattle.std.proofs.Common.{◌≡◌, ◌++◌, filter, map, take}
use Rattle.run_facts.specs.NearestJob.{change_of, is_changed}
use Rattle.run_facts.proofs.nearest_job.add_changed.Given as goal

abbrev pub invariant-loop-entry : goal.invariant-loop-entry
invariant-loop-entry l = l.changes ≡ l.initial.changes ++ map (change_of l.other) (filter (is_changed l.other) (take l.entry-index l.entries))
