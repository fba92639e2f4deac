-- That what was learned is what a world gives: the outputs of each job that is met and resolved, with their files named relative to the
-- job's output folder.
use Rattle.std.specs.Prelude.{◌≡◌, List, Some, Contains, find}
use Rattle.cwl_process.specs.declared.tool.Tool.{Tool}
use Rattle.job_graph.specs.Words.{Fields, JobPlace}
use Rattle.job_graph.specs.Jobs.{Job, met_job, Walker}
use Rattle.job_graph.specs.Unfold.{Resolved, is_at, outputs_at, made_by, unfolded}
use Rattle.job_graph.specs.Eval.{Key, World}
use Rattle.job_graph.specs.More.{Stays}

abbrev pub Agrees : (Tool → Fields → Key) → World → Walker → List Resolved → Type 0
Agrees key world walks learned =
    (job : Job) → Contains (walks (made_by learned)).met (met_job job) → Stays (outputs_at learned job.place) (world (key job.tool job.inputs))

-- the same of the jobs that are known
abbrev pub AgreesKnown : (Tool → Fields → Key) → World → Walker → List Resolved → Type 0
AgreesKnown key world walks learned =
    (place : JobPlace) (job : Job) (outputs : Fields) → find (is_at place) (unfolded walks learned).jobs ≡ Some job
    → outputs_at learned place ≡ Some outputs → world (key job.tool job.inputs) ≡ Some outputs
