use Rattle.std.proofs.Common.{◌≡◌, ◌++◌, filter, map, take}
use Rattle.run_facts.specs.NearestJob.{gone_of, is_gone}
use Rattle.run_facts.proofs.nearest_job.add_gone.Given as goal

abbrev pub invariant-loop-entry : goal.invariant-loop-entry
invariant-loop-entry l = l.changes ≡ l.initial.changes ++ map gone_of (filter (is_gone l.own) (take l.entry-index l.entries))
