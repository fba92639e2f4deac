-- The parents of a job: the jobs known before it that made a File or Directory in its inputs.
use Rattle.std.specs.Prelude.{◌≡◌, ◌<◌, ℕ, true, List, Some, slice_get}
use Rattle.job_graph.specs.Jobs.{Job}
use Rattle.job_graph.specs.Made.{any_made}
use Rattle.job_graph.specs.Words.{JobPlace}
use Rattle.run_rules.specs.Plans.{number_of}

pub record IsParent (jobs : List Job) (job parent : Job) : Type 0 where
  pub number : ℕ
  pub known : slice_get jobs number ≡ Some parent
  pub before : number < number_of job.place jobs
  pub made : any_made parent.place job.inputs ≡ true

-- the job has a parent at this place
pub record HasParentAt (jobs : List Job) (job : Job) (place : JobPlace) : Type 0 where
  pub parent : Job
  pub is : IsParent jobs job parent
  pub at : parent.place ≡ place
