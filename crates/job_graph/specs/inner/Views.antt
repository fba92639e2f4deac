-- What is kept of a walk and of the jobs that have ended, as the definitions see it.
use Rattle.std.specs.Prelude.{map}
use Rattle.job_graph.specs.Jobs.{Made, Met, met_job, met_fault, Walk}
use Rattle.job_graph.specs.KnownJobs.{job_of}
use Rattle.job_graph.specs.Unfold.{Resolved, made_by}
use Rattle.job_graph.specs.declared.made.Facts.{Facts}
use Rattle.job_graph.specs.declared.made.Resolved.{Resolved as KeptResolved}
use Rattle.job_graph.specs.declared.walk.Met.{Met as KeptMet}
use Rattle.job_graph.specs.declared.walk.Met.TheVariants as kept
use Rattle.job_graph.specs.declared.walk.Walk.{Walk as KeptWalk}

abbrev pub met_of : KeptMet → Met
met_of (kept.Job job) = met_job (job_of job)
met_of (kept.Fault place cause) = met_fault place cause

abbrev pub walk_of : KeptWalk → Walk
walk_of walk = record { met = map met_of walk.met; outs = walk.outs }

abbrev pub resolved_of : KeptResolved → Resolved
resolved_of kept = record { place = kept.at.place; outputs = kept.outputs }

-- the outputs of the jobs that have ended
abbrev pub made_from : Facts → Made
made_from facts = made_by (map resolved_of facts.learned)
