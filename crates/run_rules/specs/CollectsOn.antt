-- What comes once a job's output folder is listed: first bytes of what was found are read, one file after another, where the outputs ask for
-- them; then the outputs are collected, or there is a fault why there are none (CWL v1.2, Command Line Tool, "Output binding").
use Rattle.std.specs.Prelude.{ℕ, Bool, List, [], ◌∷◌, Option, unwrap_or, Ok, Err}
use Rattle.collected_outputs.specs.Collected.{IsCollected}
use Rattle.collected_outputs.specs.Listing.{listing_of}
use Rattle.collected_outputs.specs.Outputs.{Left}
use Rattle.collected_outputs.specs.Patterns.{runtime}
use Rattle.collected_outputs.specs.declared.fault.OutputFault.{OutputFault}
use Rattle.staging.specs.declared.found.Found.{Found}
use Rattle.run_rules.specs.declared.outcome.Cause.{Cause}
use Rattle.run_rules.specs.declared.outcome.CollectCause.{CollectCause}
use Rattle.collected_outputs.specs.Contents.{Heads}
use Rattle.job_graph.specs.Jobs.{Job}
use Rattle.job_graph.specs.Words.{Name, Fields, JobPlace}
use Rattle.job_rows.specs.declared.row.Row.{Row}
use Rattle.run_rules.specs.Events.{Event, job_failed, Work, nothing_due, output_heads_due, Started}
use Rattle.run_rules.specs.Keeps.{Keeps}

-- what a child left behind: it was started so, this was found in its output folder, and these first bytes were read
abbrev pub left_of : Started → List Found → Heads → Left
left_of started found read = record {
  listing = listing_of found;
  heads = read;
  stdout = unwrap_or started.launch.stdout [];
  stderr = unwrap_or started.launch.stderr [];
  inputs = started.inputs;
  runtime = runtime;
}

-- where an archive is kept or not, the job at a place, with this row where one was found, whose child was started so and ran for so long,
-- with what was found, where these first bytes were read and those of these names are not
pub data CollectsOn (keep : Bool) (place : JobPlace) (job : Job) (row : Option Row) (started : Started) (millis : ℕ) (found : List Found) (read : Heads) : List Name → Work → List Event → Type 0 where
  reads_on : (name : Name) (more : List Name) →
      CollectsOn keep place job row started millis found read (name ∷ more) (output_heads_due place millis found (name ∷ more) read) []
  collects : (outputs : Fields) (work : Work) (more : List Event) → IsCollected (left_of started found read) job.tool.outputs (Ok outputs) →
      Keeps keep place job row millis found outputs work more →
      CollectsOn keep place job row started millis found read [] work more
  collects_none : (fault : OutputFault) → IsCollected (left_of started found read) job.tool.outputs (Err fault) →
      CollectsOn keep place job row started millis found read [] nothing_due (job_failed place (Cause.Collect (CollectCause.Output fault)) ∷ [])
