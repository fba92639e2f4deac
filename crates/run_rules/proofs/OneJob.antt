-- A lone tool is one job, whatever is known.
use Rattle.std.proofs.Common.{◌≡◌, List, [], ◌∷◌, Ok, Err, refl}
use Rattle.cwl_process.specs.declared.tool.Tool.{Tool}
use Rattle.job_graph.specs.declared.cause.Cause.{Cause}
use Rattle.job_graph.specs.Jobs.{Job, tool_walk}
use Rattle.job_graph.specs.Unfold.{Resolved, jobs_after}
use Rattle.job_graph.specs.Words.{Fields}

module _ (tool : Tool) (inputs : Fields) where
  abbrev pub job : Job
  job = record { place = []; tool = tool; inputs = inputs }

  pub one_job : (known : List Resolved) → jobs_after (tool_walk tool [] (Ok inputs)) known ≡ job ∷ []
  one_job [] = refl
  one_job (r ∷ earlier) = rw (one_job earlier) refl

pub no_job : (tool : Tool) (cause : Cause) (known : List Resolved) → jobs_after (tool_walk tool [] (Err cause)) known ≡ []
no_job tool cause [] = refl
no_job tool cause (r ∷ earlier) = rw (no_job tool cause earlier) refl
