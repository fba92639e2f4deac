-- Under which key a run asks for what it asks for a job.
use Rattle.std.specs.Prelude.{◌≡◌, ℕ, List, Some}
use Rattle.job_graph.specs.Jobs.{Job}
use Rattle.job_graph.specs.Words.{JobPlace}
use Rattle.job_key.specs.Key.{Key, key}
use Rattle.proc_host.specs.declared.call.HostRequest.{HostRequest}
use Rattle.run_rules.specs.Events.{Event, job_at}
use Rattle.run_rules.specs.Recorded.{key_of}
use Rattle.run_rules.specs.Scene.{Scene}
use Rattle.run_rules.specs.declared.request.Request.{Request}

-- it is the key of the known job at a place
pub record IsKeyOf (s : Scene) (es : List Event) (place : JobPlace) (its_key : Key) : Type 0 where
  pub job : Job
  pub known : job_at s es place ≡ Some job
  pub keyed : its_key ≡ key job.tool job.inputs

-- each command to the record for the job at a place is about the key of that job, and its files are fetched and archived under it
abbrev pub IsUnderKey : Scene → List Event → Request → Type 0
IsUnderKey s es (Request.Record place command) = IsKeyOf s es place (key_of command)
IsUnderKey s es (Request.Host place (HostRequest.Fetch its_key number files)) = IsKeyOf s es place its_key
IsUnderKey s es (Request.Host place (HostRequest.Store its_key folder files)) = IsKeyOf s es place its_key
IsUnderKey s es request = Unit {0}
