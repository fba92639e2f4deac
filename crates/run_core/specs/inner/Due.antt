-- What the open work on one job is, as the rules of a run have it: what its phase and its call stand for, and what may come next.
use Rattle.std.specs.Prelude.{◌≡◌, ◌<◌, ◌^◌, ℕ, Bool, List, [], ◌∷◌, ◌++◌, Option, Some, None, Ok, Err, length, reverse, unwrap_or, ◌≢◌, option_copied}
use Rattle.collected_outputs.specs.Collected.{IsCollected}
use Rattle.collected_outputs.specs.HeadsWanted.{AreHeadsWanted, limit_of}
use Rattle.collected_outputs.specs.Listing.{listing_of}
use Rattle.collected_outputs.specs.Outputs.{Left}
use Rattle.collected_outputs.specs.Patterns.{runtime}
use Rattle.collected_outputs.specs.declared.fault.OutputFault.{OutputFault}
use Rattle.command_line.specs.Launch.{IsLaunch, IsRefused}
use Rattle.command_line.specs.declared.fault.BuildFault.{BuildFault}
use Rattle.command_line.specs.declared.launch.Launch.{Launch}
use Rattle.cwl_value.specs.declared.value.TheConstants.{MOST_CONTENTS}
use Rattle.plain_data.specs.ByName.{with_value}
use Rattle.proc_host.specs.declared.call.HostRequest.{HostRequest}
use Rattle.staging.specs.Groups.{path_in}
use Rattle.staging.specs.declared.found.Found.{Found}
use Rattle.run_rules.specs.declared.outcome.Cause.{Cause}
use Rattle.run_rules.specs.declared.outcome.CollectCause.{CollectCause}
use Rattle.run_rules.specs.declared.setting.Options.{Options}
use Rattle.job_graph.specs.Words.{Name, Fields, JobPlace}
use Rattle.collected_outputs.specs.Contents.{Heads}
use Rattle.run_rules.specs.CollectsOn.{CollectsOn}
use Rattle.run_rules.specs.Events.{Event, job_failed, job_succeeded, Work, nothing_due, input_heads_due, start_due, scan_due, output_heads_due, Started, row_differs, put_due, job_repeated, store_due, discard_due, drop_due, touch_due}
use Rattle.run_rules.specs.Folders.{out_folder, runtime_of}
use Rattle.job_graph.specs.Jobs.{Job}
use Rattle.run_rules.specs.StartsOn.{StartsOn}
use Rattle.run_core.specs.declared.site.Site.{Site}
use Rattle.run_core.specs.declared.state.Filling.{Filling}
use Rattle.run_core.specs.declared.state.JobNext.{JobNext}
use Rattle.run_core.specs.declared.state.JobPhase.{JobPhase}
use Rattle.run_core.specs.declared.state.Kept.{Kept}
use Rattle.run_core.specs.declared.state.Reading.{Reading}
use Rattle.job_rows.specs.declared.row.Row.{Row}
use Rattle.run_rules.specs.Keeps.{Keeps, work_to_keep}

-- the work on the job at a place that a call and a phase stand for
abbrev pub work_of : JobPlace → HostRequest → JobPhase → Work
work_of place call (JobPhase.Filling filling) = input_heads_due place filling.staged (reverse filling.left) filling.heads
work_of place (HostRequest.Start launch) (JobPhase.Starting kept) = start_due place kept.inputs launch
work_of place call (JobPhase.Starting kept) = nothing_due
work_of place call (JobPhase.Scanning kept millis) = scan_due place millis
work_of place call (JobPhase.Reading kept reading) = output_heads_due place reading.millis reading.found (reverse reading.left) reading.heads

-- the call for that work, of a job in the folders of this number
abbrev pub call_for : Options → ℕ → Work → Option HostRequest
call_for options folder nothing_due = None
call_for options folder (input_heads_due place staged [] read) = None
call_for options folder (input_heads_due place staged (path ∷ todo) read) = Some (HostRequest.Head path MOST_CONTENTS)
call_for options folder (start_due place inputs launch) = Some (HostRequest.Start launch)
call_for options folder (scan_due place millis) = Some (HostRequest.Scan (out_folder options.work folder))
call_for options folder (output_heads_due place millis found [] read) = None
call_for options folder (output_heads_due place millis found (name ∷ todo) read) =
    Some (HostRequest.Head (path_in (out_folder options.work folder) name) (limit_of name))
call_for options folder (put_due place row) = None
call_for options folder (touch_due place its_key) = None
call_for options folder (drop_due place its_key) = None
call_for options folder (discard_due place its_key more) = None
call_for options folder (store_due place row) = None

-- the work that comes next, where an archive is kept or not
abbrev pub work_next : Bool → JobPlace → JobNext → Work
work_next keep place (JobNext.Asks call phase) = work_of place call phase
work_next keep place (JobNext.Fails cause) = nothing_due
work_next keep place (JobNext.Gives outputs None) = nothing_due
work_next keep place (JobNext.Gives outputs (Some row)) = work_to_keep keep place row
work_next keep place (JobNext.Differs outputs) = nothing_due
work_next keep place (JobNext.Repeats row) = work_to_keep keep place row

abbrev pub events_next : JobPlace → JobNext → List Event
events_next place (JobNext.Asks call phase) = []
events_next place (JobNext.Fails cause) = job_failed place cause ∷ []
events_next place (JobNext.Gives outputs row) = job_succeeded place outputs ∷ []
events_next place (JobNext.Differs outputs) = row_differs place outputs ∷ []
events_next place (JobNext.Repeats row) = job_repeated place ∷ []

-- what is kept of a job's child is what it was started by
pub record IsKept (kept : Kept) (started : Started) : Type 0 where
  pub inputs : kept.inputs ≡ started.inputs
  pub stdout : kept.stdout ≡ started.launch.stdout
  pub stderr : kept.stderr ≡ started.launch.stderr

abbrev pub kept_of : Fields → Launch → Kept
kept_of inputs launch = record { inputs = inputs; stdout = launch.stdout; stderr = launch.stderr }

-- what a child left behind
abbrev pub left_by : Kept → List Found → Heads → Left
left_by kept found read = record {
  listing = listing_of found;
  heads = read;
  stdout = unwrap_or kept.stdout [];
  stderr = unwrap_or kept.stderr [];
  inputs = kept.inputs;
  runtime = runtime;
}

-- a phase looks at fewer files than a list can have, and keeps what its call is of
abbrev pub FitsCall : HostRequest → JobPhase → Type 0
FitsCall call (JobPhase.Filling filling) = length filling.left < 2 ^ 64
FitsCall (HostRequest.Start launch) (JobPhase.Starting kept) = kept ≡ kept_of kept.inputs launch
FitsCall call (JobPhase.Starting kept) = ⊥
FitsCall call (JobPhase.Scanning kept millis) = Unit {0}
FitsCall call (JobPhase.Reading kept reading) = length reading.left < 2 ^ 64

-- the call is the one for the work
pub record Calls (options : Options) (folder : ℕ) (call : HostRequest) (phase : JobPhase) : Type 0 where
  pub due : call_for options folder (work_of [] call phase) ≡ Some call
  pub fits : FitsCall call phase

abbrev pub CallsNext : Options → ℕ → JobNext → Type 0
CallsNext options folder (JobNext.Asks call phase) = Calls options folder call phase
CallsNext options folder next = Unit {0}

-- nothing more is asked for the job before its outputs are there, or why there are none
abbrev pub AsksNothing : JobNext → Type 0
AsksNothing (JobNext.Asks call phase) = ⊥
AsksNothing next = Unit {0}

-- what is kept of the job stays where more is read
abbrev pub KeepsStill : Kept → JobNext → Type 0
KeepsStill kept (JobNext.Asks call (JobPhase.Reading now reading)) = now ≡ kept
KeepsStill kept next = Unit {0}

-- the job of a site
abbrev pub job_at_site : Site → JobPlace → Job
job_at_site site place = record { place = place; tool = site.tool.now; inputs = site.inputs.now }

-- the staged job goes on so, where these first bytes of its inputs were read and those of these paths are not
pub record Starts (site : Site) (staged : Fields) (read : Heads) (todo : List Name) (next : JobNext) : Type 0 where
  pub on : (place : JobPlace) →
      StartsOn site.options.now place (job_at_site site place) site.folder staged read todo (work_next site.options.now.keep place next) (events_next place next)
  pub calls : CallsNext site.options.now site.folder next

-- the job whose child ended well after so long goes on so, where this was found, these first bytes were read and those of these names are
-- not
pub record Collects (site : Site) (kept : Kept) (millis : ℕ) (found : List Found) (read : Heads) (todo : List Name) (next : JobNext) : Type 0 where
  pub on : (place : JobPlace) (started : Started) → IsKept kept started →
      CollectsOn site.options.now.keep place (job_at_site site place) (option_copied site.row) started millis found read todo (work_next site.options.now.keep place next) (events_next place next)
  pub calls : CallsNext site.options.now site.folder next
  pub keeps : KeepsStill kept next

-- the child ended well after so long, and its folder is listed next
pub record Scans (site : Site) (kept : Kept) (millis : ℕ) (next : JobNext) : Type 0 where
  pub is : next ≡ JobNext.Asks (HostRequest.Scan (out_folder site.options.now.work site.folder)) (JobPhase.Scanning kept millis)

-- the staged job has this launch, or none
pub data Launches (site : Site) (inputs : Fields) : JobNext → Type 0 where
  has_launch : (launch : Launch) → IsLaunch site.tool.now inputs (runtime_of site.options.now site.folder) launch →
      Launches site inputs (JobNext.Asks (HostRequest.Start launch) (JobPhase.Starting (kept_of inputs launch)))
  has_none : (fault : BuildFault) → IsRefused site.tool.now inputs (runtime_of site.options.now site.folder) fault →
      Launches site inputs (JobNext.Fails (Cause.Build fault))

-- the same once the file whose turn it is has these first bytes
pub record StartsPast (site : Site) (filling : Filling) (bytes : List ℕ) (next : JobNext) : Type 0 where
  pub each : (rest : List Name) (path : Name) → filling.left ≡ rest ++ path ∷ [] →
      Starts site filling.staged (with_value path bytes filling.heads) (reverse rest) next

pub record CollectsPast (site : Site) (kept : Kept) (reading : Reading) (bytes : List ℕ) (next : JobNext) : Type 0 where
  pub each : (rest : List Name) (name : Name) → reading.left ≡ rest ++ name ∷ [] →
      Collects site kept reading.millis reading.found (with_value name bytes reading.heads) (reverse rest) next

-- the folder is listed: the files that the outputs ask for are read
pub record CollectsFirst (site : Site) (kept : Kept) (millis : ℕ) (found : List Found) (next : JobNext) : Type 0 where
  pub wanted : List Name
  pub are : AreHeadsWanted (listing_of found) kept.inputs site.tool.now.outputs wanted
  pub on : Collects site kept millis found [] wanted next

-- a row was found that has other outputs
abbrev pub DiffersAt : Option Row → Fields → Type 0
DiffersAt None outputs = ⊥
DiffersAt (Some row) outputs = row.outputs ≢ outputs

-- the outputs are told, unless a row was found that has told them; and this row is put
abbrev pub told_in : Option Row → Fields → Row → JobNext
told_in None outputs row = JobNext.Gives outputs (Some row)
told_in (Some found) outputs row = JobNext.Repeats row

-- the collected outputs of the job at this site are kept so
pub record KeepsAt (site : Site) (millis : ℕ) (found : List Found) (outputs : Fields) (next : JobNext) : Type 0 where
  pub on : (place : JobPlace) →
      Keeps site.options.now.keep place (job_at_site site place) (option_copied site.row) millis found outputs (work_next site.options.now.keep place next) (events_next place next)
  pub asks_nothing : AsksNothing next

-- the outputs are collected, or there is a cause why there are none
pub data Gathers (site : Site) (kept : Kept) (millis : ℕ) (found : List Found) (read : Heads) : JobNext → Type 0 where
  gives : (outputs : Fields) (next : JobNext) → IsCollected (left_by kept found read) site.tool.now.outputs (Ok outputs) → KeepsAt site millis found outputs next →
      Gathers site kept millis found read next
  gives_none : (fault : OutputFault) → IsCollected (left_by kept found read) site.tool.now.outputs (Err fault) →
      Gathers site kept millis found read (JobNext.Fails (Cause.Collect (CollectCause.Output fault)))
