use Rattle.std.proofs.Common.{◌≡◌, take}
use Rattle.std.specs.Prelude.{zip}
use Rattle.run_facts.specs.EarlierJobs.{durations_of}
use Rattle.run_facts.proofs.earlier_jobs.durations_of.Given as goal

abbrev pub invariant-loop-number : goal.invariant-loop-number
invariant-loop-number l = l.own.items ≡ durations_of l.fields (take l.number (zip l.jobs l.costs))
