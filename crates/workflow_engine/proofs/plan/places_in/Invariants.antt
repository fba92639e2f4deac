use Rattle.std.proofs.Common.{◌≡◌, map, take}
use Rattle.job_graph.specs.declared.growth.KnownJob.{KnownJob}
use Rattle.workflow_engine.proofs.plan.places_in.Given as goal

abbrev pub invariant-loop-one : goal.invariant-loop-one
invariant-loop-one l = l.places.items ≡ map (λ (k : KnownJob). k.job.place) (take l.one-index l.jobs)
