use Rattle.std.proofs.Common.{take}
use Rattle.std.specs.Prelude.{zip}
use Rattle.run_facts.specs.EarlierJobs.{AreEarlier}
use Rattle.run_facts.proofs.earlier_jobs.earlier_of.Given as goal

abbrev pub invariant-loop-step : goal.invariant-loop-step
invariant-loop-step l = AreEarlier l.process (zip l.jobs l.costs) (take l.step-index l.steps) l.found.items
