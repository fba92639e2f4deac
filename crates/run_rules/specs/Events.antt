-- What has happened in a transcript, and what is read off it.
use Rattle.std.specs.Prelude.{ℕ, ◌==◌, ◌||◌, ◌&&◌, not, Bool, true, false, cond, List, [], ◌∷◌, ◌++◌, Option, Some, None, filter, filter_map, find, fold, map, bytes_eq}
use Rattle.std.specs.List.{list_all, list_any}
use Rattle.command_line.specs.declared.launch.Launch.{Launch}
use Rattle.cwl_process.specs.Acting.{reuse_of}
use Rattle.input_files.specs.Measured.{Measures}
use Rattle.job_rows.specs.declared.refusal.RecordRefusal.{RecordRefusal}
use Rattle.job_rows.specs.declared.row.Row.{Row}
use Rattle.plain_data.specs.ByName.{with_value}
use Rattle.proc_host.specs.declared.call.HostFault.{HostFault}
use Rattle.staging.specs.declared.found.Found.{Found}
use Rattle.staging.specs.declared.measure.Measure.{Measure}
use Rattle.staging.specs.declared.plan.StagePlan.{StagePlan}
use Rattle.run_rules.specs.declared.outcome.Cause.{Cause}
use Rattle.collected_outputs.specs.Contents.{Heads}
use Rattle.job_graph.specs.Jobs.{Job}
use Rattle.job_graph.specs.Unfold.{Resolved, Unfolded, unfolded, nothing_known, is_at}
use Rattle.job_graph.specs.Words.{Name, Fields, JobPlace, is_same_place}
use Rattle.run_rules.specs.Folders.{left_folder}
use Rattle.run_rules.specs.Scene.{Scene}

pub data Event : Type 0 where
  -- what is at the path of an input file
  file_measured : (path : Name) (measure : Measure) → Event
  -- the job's folders, of this number, are made
  job_staged : (place : JobPlace) (number : ℕ) → Event
  -- its child runs, started by this launch, on these inputs: staged, with contents
  job_started : (place : JobPlace) (inputs : Fields) (launch : Launch) (ticket : ℕ) → Event
  -- the child has ended
  child_exited : (ticket : ℕ) → Event
  -- the job's named outputs were collected
  job_succeeded : (place : JobPlace) (outputs : Fields) → Event
  -- the job's named outputs were collected, and are not those of its row
  row_differs : (place : JobPlace) (outputs : Fields) → Event
  -- the job gives no outputs
  job_failed : (place : JobPlace) (cause : Cause) → Event
  -- the job gives no outputs, and might if it were started again: a signal ended its child, or a code that its tool calls temporary
  job_failed_for_now : (place : JobPlace) → Event
  -- the result's files are copied to where they are wanted
  result_delivered : (plan : StagePlan) → Event
  -- a call for the job at this place, other than a collect, failed; the root's where it is for the whole run
  host_failed : (place : JobPlace) (fault : HostFault) → Event
  -- a collect failed
  collect_failed : Event
  -- the record has this row of the job at a place: of its key, and one that its tool may have
  row_found : (place : JobPlace) (row : Row) → Event
  -- the record has no row of it
  no_row : (place : JobPlace) → Event
  -- the question for it was refused, or the row contradicts itself or the tool
  find_failed : (place : JobPlace) (refusal : RecordRefusal) → Event
  -- the record refused to keep the row of the job at a place
  put_failed : (place : JobPlace) (refusal : RecordRefusal) → Event
  -- the files of the job at a place could not be archived
  store_failed : (place : JobPlace) → Event
  -- a call for the job at this place failed once the end was settled
  host_failed_late : (place : JobPlace) (fault : HostFault) → Event
  -- the job's named outputs were collected, and are those of its row
  job_repeated : (place : JobPlace) → Event
  -- the files of the job's row were fetched, and are in the folder of this number
  files_fetched : (place : JobPlace) (number : ℕ) → Event
  -- what was fetched for the job, to the folder of this number, is not what its row of this key has
  archive_differs : (place : JobPlace) (key : List ℕ) (number : ℕ) → Event
  -- the record refused to note that the archive of the job's row is gone
  drop_failed : (place : JobPlace) (refusal : RecordRefusal) → Event
  -- the record refused to note that the archive of the job's row was used
  touch_failed : (place : JobPlace) (refusal : RecordRefusal) → Event
  -- an archive that is of no use any more could not be discarded, for the job at this place
  discard_failed : (place : JobPlace) → Event

-- the work that is due next
pub data Work : Type 0 where
  -- none
  nothing_due : Work
  -- first bytes of the staged job's inputs are read: of the files at these paths, where these were read
  input_heads_due : (place : JobPlace) (staged : Fields) (todo : List Name) (read : Heads) → Work
  -- the staged job is started, by this launch, on these inputs: staged, with contents
  start_due : (place : JobPlace) (inputs : Fields) (launch : Launch) → Work
  -- the job's output folder is scanned, its child having ended well after so long
  scan_due : (place : JobPlace) (millis : ℕ) → Work
  -- first bytes of what was found there are read, its child having ended well after so long: of the files of these names, where these were
  -- read
  output_heads_due : (place : JobPlace) (millis : ℕ) (found : List Found) (todo : List Name) (read : Heads) → Work
  -- the row of the job is put, its outputs having been collected
  put_due : (place : JobPlace) (row : Row) → Work
  -- the archive of this key is dropped, since what was fetched of it for the job is not what its row has
  drop_due : (place : JobPlace) (key : List ℕ) → Work
  -- the archive of this key is used, since what was fetched of it for the job is what its row has
  touch_due : (place : JobPlace) (key : List ℕ) → Work
  -- the archive of this key is discarded for the job, and then those of these: they are of no use any more
  discard_due : (place : JobPlace) (key : List ℕ) (more : List (List ℕ)) → Work
  -- the files of the job are archived under the key of its row, which is put then
  store_due : (place : JobPlace) (row : Row) → Work

-- what a transcript has brought about: what is due next, and what has happened
pub record Progress : Type 0 where
  pub work : Work
  pub events : List Event

-- Read off the events

-- what was measured after one more event
abbrev pub measures_after : Measures → Event → Measures
measures_after known (file_measured path measure) = with_value path measure known
measures_after known _ = known

-- what was measured, by path
abbrev pub measures : List Event → Measures
measures es = fold measures_after [] es

-- whether an event is the measure of a path
abbrev pub measures_path : Name → Event → Bool
measures_path path (file_measured p measure) = bytes_eq p path
measures_path path _ = false

abbrev pub is_measured : List Event → Name → Bool
is_measured es path = list_any (measures_path path) es

-- the place that an event resolves, with its outputs: by the end of its job, or by its row
abbrev pub resolves : Event → Option Resolved
resolves (job_succeeded place outputs) = Some (record { place = place; outputs = outputs })
resolves (row_found place row) = Some (record { place = place; outputs = row.outputs })
resolves _ = None

-- the resolved places in the order learned
abbrev pub resolved : List Event → List Resolved
resolved es = filter_map resolves es

-- the children in flight after one more event
abbrev pub flight_after : List (ℕ × JobPlace) → Event → List (ℕ × JobPlace)
flight_after flying (job_started place inputs launch ticket) = flying ++ (ticket, place) ∷ []
flight_after flying (child_exited ticket) = filter (λ f. not (f.0 == ticket)) flying
flight_after flying _ = flying

-- the children in flight: ticket and place
abbrev pub in_flight : List Event → List (ℕ × JobPlace)
in_flight es = fold flight_after [] es

-- their tickets
abbrev pub tickets : List Event → List ℕ
tickets es = map (λ f. f.0) (in_flight es)

-- whether an event brings the outputs of the job at a place
abbrev pub brings : JobPlace → Event → Bool
brings place (job_succeeded p outputs) = is_same_place p place
brings place (job_repeated p) = is_same_place p place
brings place (files_fetched p number) = is_same_place p place
brings place _ = false

-- its outputs were collected in this run, or fetched
abbrev pub is_at_hand : List Event → JobPlace → Bool
is_at_hand es place = list_any (brings place) es

-- it is in flight or at hand
abbrev pub is_held : List Event → JobPlace → Bool
is_held es place = list_any (λ f. is_same_place f.1 place) (in_flight es) || is_at_hand es place

-- the number of a place's folders after one more event, where it was n
abbrev pub number_if : JobPlace → ℕ → Event → ℕ
number_if place n (job_staged p number) = cond (is_same_place p place) number n
number_if place n (files_fetched p number) = cond (is_same_place p place) number n
number_if place n _ = n

-- the number of the folders that a job was staged in last, or its files were fetched to; 0 where there are none
abbrev pub number_at : List Event → JobPlace → ℕ
number_at es place = fold (number_if place) 0 es

-- whether these are of a fetch, after one more event
abbrev pub fetched_if : JobPlace → Bool → Event → Bool
fetched_if place last (job_staged p number) = cond (is_same_place p place) false last
fetched_if place last (files_fetched p number) = cond (is_same_place p place) true last
fetched_if place last _ = last

abbrev pub is_fetched : List Event → JobPlace → Bool
is_fetched es place = fold (fetched_if place) false es

-- what a child was started by
pub record Started : Type 0 where
  pub inputs : Fields
  pub launch : Launch

-- how a place's child was started after one more event, where it was so
abbrev pub started_if : JobPlace → Option Started → Event → Option Started
started_if place last (job_started p inputs launch ticket) = cond (is_same_place p place) (Some (record { inputs = inputs; launch = launch })) last
started_if place last _ = last

-- how the job's child was started last; none where it never was
abbrev pub started_at : List Event → JobPlace → Option Started
started_at es place = fold (started_if place) None es

-- the plan that the result's files were copied by, after one more event
abbrev pub delivered_if : Option StagePlan → Event → Option StagePlan
delivered_if last (result_delivered plan) = Some plan
delivered_if last _ = last

-- the plan that the result's files were copied by; none where they were not
abbrev pub delivered_at : List Event → Option StagePlan
delivered_at es = fold delivered_if None es

-- whether an event tells what the record has of the job at a place
abbrev pub looks_up : JobPlace → Event → Bool
looks_up place (row_found p row) = is_same_place p place
looks_up place (no_row p) = is_same_place p place
looks_up place _ = false

abbrev pub is_looked_up : List Event → JobPlace → Bool
is_looked_up es place = list_any (looks_up place) es

-- whether an earlier result of a job may be used (CWL v1.2, "WorkReuse")
abbrev pub is_reusable : Job → Bool
is_reusable job = reuse_of job.tool.asked

-- whether the row of a job is not looked for any more: it was, or its tool lets no earlier result be used
abbrev pub has_no_find : List Event → Job → Bool
has_no_find es job = not (is_reusable job) || is_looked_up es job.place

-- the row of the job at a place after one more event, where it was so
abbrev pub row_if : JobPlace → Option Row → Event → Option Row
row_if place last (row_found p row) = cond (is_same_place p place) (Some row) last
row_if place last _ = last

-- the row that the record has of the job at a place, as far as it was looked for
abbrev pub row_at : List Event → JobPlace → Option Row
row_at es place = fold (row_if place) None es

-- whether folders of a number were made
abbrev pub is_numbered : Event → Bool
is_numbered (job_staged place number) = true
is_numbered (files_fetched place number) = true
is_numbered (archive_differs place key number) = true
is_numbered _ = false

-- whether an event shows that the archive of a key is not what its row has
abbrev pub loses : List ℕ → Event → Bool
loses key (archive_differs place k number) = bytes_eq k key
loses key _ = false

-- the archive of a key was found to be another
abbrev pub is_lost : List Event → List ℕ → Bool
is_lost es key = list_any (loses key) es

-- where an archive is kept, the files of an archived row are there as far as is known
abbrev pub is_archived : Bool → List Event → Option Row → Bool
is_archived keep es None = false
is_archived keep es (Some row) = keep && row.archived && not (is_lost es row.key)

module _ (s : Scene) where
  -- whether each input file is measured
  abbrev pub are_measured : List Event → Bool
  are_measured es = list_all (is_measured es) s.paths

  -- what is known: nothing before each input file is measured
  abbrev pub unfolding_at : List Event → Unfolded
  unfolding_at es = cond (are_measured es) (unfolded (s.walker (measures es)) (resolved es)) nothing_known

  -- the known job at a place
  abbrev pub job_at : List Event → JobPlace → Option Job
  job_at es place = find (is_at place) (unfolding_at es).jobs

  -- whether the row of no known job is looked for any more
  abbrev pub are_looked_up : List Event → Bool
  are_looked_up es = list_all (has_no_find es) (unfolding_at es).jobs

  -- the folder that has the outputs of the job at a place
  abbrev pub folder_at : List Event → JobPlace → Name
  folder_at es place = left_folder s.options.work (is_fetched es place) (number_at es place)

  -- whether the job at a place can be loaded: it is of a row whose archive is kept
  abbrev pub can_load : List Event → JobPlace → Bool
  can_load es place = is_archived s.options.keep es (row_at es place)

-- before any pair
abbrev pub at_first : Progress
at_first = record { work = nothing_due; events = [] }
