-- Known jobs as the definitions see them.
use Rattle.std.specs.Prelude.{suc, ℕ, List, [], ◌∷◌, map, cond, Option, None, Some, option_map}
use Rattle.job_graph.specs.Jobs.{Job}
use Rattle.job_graph.specs.Unfold.{Known, is_at}
use Rattle.job_graph.specs.Words.{JobPlace}
use Rattle.job_graph.specs.declared.growth.KnownJob.{KnownJob}
use Rattle.job_graph.specs.declared.walk.Job.{Job as KeptJob}

abbrev pub job_of : KeptJob → Job
job_of job = record { place = job.place; tool = job.tool.now; inputs = job.inputs }

-- a job with the numbers of its parents
abbrev pub known_of : KnownJob → Known
known_of known = record { job = job_of known.job; parents = known.parents }

abbrev pub jobs_in : List KnownJob → List Job
jobs_in known = map (λ k. job_of k.job) known

-- the number of the first of these jobs that is at a place
abbrev pub number_at : JobPlace → List Job → Option ℕ
number_at place [] = None
number_at place (job ∷ jobs) = cond (is_at place job) (Some 0) (option_map suc (number_at place jobs))
