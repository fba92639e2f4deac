-- What may be asked, over what has happened so far.
use Rattle.std.specs.Prelude.{ℕ, ◌+◌, ◌<◌, ◌≡◌, true, false, List, [], ◌∷◌, Option, Some, None, length, filter, Contains}
use Rattle.std.specs.List.{list_any}
use Rattle.proc_host.specs.declared.call.HostRequest.{HostRequest}
use Rattle.collected_outputs.specs.HeadsWanted.{limit_of}
use Rattle.staging.specs.Groups.{path_in}
use Rattle.staging.specs.Plan.{IsPlan}
use Rattle.staging.specs.declared.found.Found.{Found}
use Rattle.staging.specs.declared.plan.StagePlan.{StagePlan}
use Rattle.cwl_value.specs.declared.value.TheConstants.{MOST_CONTENTS}
use Rattle.job_key.specs.Key.{Key, key}
use Rattle.job_rows.specs.declared.row.Row.{Row}
use Rattle.run_rules.specs.declared.request.RecordRequest.{RecordRequest}
use Rattle.run_rules.specs.declared.request.Request.{Request}
use Rattle.job_graph.specs.Jobs.{Job}
use Rattle.cwl_value.specs.Placed.{fields_moved}
use Rattle.job_graph.specs.Words.{Name, Fields, JobPlace}
use Rattle.run_rules.specs.Folders.{in_folder}
use Rattle.run_rules.specs.Delivered.{any_file, source_place}
use Rattle.run_rules.specs.Events.{Event, Work, nothing_due, input_heads_due, start_due, scan_due, output_heads_due, put_due, store_due, Progress, in_flight, is_at_hand, is_held, is_measured, is_looked_up, is_reusable, are_looked_up, are_measured, delivered_at, folder_at, unfolding_at, job_at, drop_due, touch_due, discard_due, is_numbered, row_at}
use Rattle.run_rules.specs.End.{settled, IsDelivery, is_lost_collect}
use Rattle.plan_checker.specs.declared.plan.Mark.{Mark}
use Rattle.plan_checker.specs.declared.plan.Mark.TheVariants.{Load, Compute}
use Rattle.run_rules.specs.Parents.{IsParent}
use Rattle.run_rules.specs.Plans.{mark_at}
use Rattle.run_rules.specs.Scene.{Scene}

module _ (s : Scene) where
  -- nothing is due, no collect has failed, and the end is not settled
  pub record IsOpen (f : Progress) : Type 0 where
    pub idle : f.work ≡ nothing_due
    pub collects : list_any is_lost_collect f.events ≡ false
    pub unsettled : settled s f.events ≡ None

  -- an input file is measured once, before anything else is asked
  pub record MayMeasure (f : Progress) (place : JobPlace) (path : Name) : Type 0 where
    pub at_root : place ≡ []
    pub still : IsOpen f
    pub known : Contains s.paths path
    pub unmeasured : is_measured f.events path ≡ false

  -- the record is asked once for the row of each known job that may have one, under the job's key, before anything but a measure is asked
  pub record MayFind (f : Progress) (place : JobPlace) (its_key : Key) : Type 0 where
    pub still : IsOpen f
    pub job : Job
    pub known : job_at s f.events place ≡ Some job
    pub reusable : is_reusable job ≡ true
    pub unasked : is_looked_up f.events place ≡ false
    pub keyed : its_key ≡ key job.tool job.inputs

  -- and each input file is measured, and the row of each known job was looked for
  pub record IsFree (f : Progress) : Type 0 where
    pub still : IsOpen f
    pub measured : are_measured s f.events ≡ true
    pub looked_up : are_looked_up s f.events ≡ true

  -- a job is staged that the plan computes and that is not held, where a slot is free and the outputs of its parents are at hand: its input
  -- files are copied to its own folder, those that its parents made from where these left them
  pub record MayStage (f : Progress) (marks : List Mark) (place : JobPlace) (plan : StagePlan) (number : ℕ) : Type 0 where
    pub free : IsFree f
    pub job : Job
    pub known : job_at s f.events place ≡ Some job
    pub computed : mark_at s marks f.events place ≡ Compute
    pub not_held : is_held f.events place ≡ false
    pub parents : (parent : Job) → IsParent (unfolding_at s f.events).jobs job parent → is_at_hand f.events parent.place ≡ true
    pub slot : length (in_flight f.events) < s.options.slots
    pub next_number : number ≡ length (filter is_numbered f.events) + 1
    pub staged : IsPlan false (in_folder s.options.work number) (fields_moved (source_place (folder_at s f.events)) job.inputs) plan

  -- the files of a job's row are fetched that the plan loads and that is not held
  pub record MayFetch (f : Progress) (marks : List Mark) (place : JobPlace) (key : List ℕ) (number : ℕ) (files : List Found) : Type 0 where
    pub free : IsFree f
    pub job : Job
    pub known : job_at s f.events place ≡ Some job
    pub loaded : mark_at s marks f.events place ≡ Load
    pub not_held : is_held f.events place ≡ false
    pub row : Row
    pub found : row_at f.events place ≡ Some row
    pub its_key : key ≡ row.key
    pub its_files : files ≡ row.files
    pub next_number : number ≡ length (filter is_numbered f.events) + 1

  -- nothing more can be fetched or staged
  pub record IsBusy (f : Progress) (marks : List Mark) : Type 0 where
    pub free : IsFree f
    pub no_fetch : (place : JobPlace) (key : List ℕ) (number : ℕ) (files : List Found) → MayFetch f marks place key number files → ⊥
    pub no_stage : (place : JobPlace) (plan : StagePlan) (number : ℕ) → MayStage f marks place plan number → ⊥

  -- a child is waited for where one is in flight, no collect has failed, and, unless the end is settled, nothing more can be
  -- fetched or staged; whose child it is nobody knows before
  pub record MayCollect (f : Progress) (marks : List Mark) (place : JobPlace) : Type 0 where
    pub at_root : place ≡ []
    pub idle : f.work ≡ nothing_due
    pub collects : list_any is_lost_collect f.events ≡ false
    pub flying : (flight : ℕ × JobPlace) × Contains (in_flight f.events) flight
    pub busy : settled s f.events ≡ None → IsBusy f marks

  -- the result's files are delivered once, where it has any, when nothing is left to be done
  pub record MayDeliver (f : Progress) (marks : List Mark) (place : JobPlace) (plan : StagePlan) : Type 0 where
    pub at_root : place ≡ []
    pub busy : IsBusy f marks
    pub landed : in_flight f.events ≡ []
    pub outputs : Fields
    pub result : (unfolding_at s f.events).result ≡ Some outputs
    pub files : any_file outputs ≡ true
    pub only : delivered_at f.events ≡ None
    pub delivery : IsDelivery s f.events outputs plan

  -- the request for the work that is due: first bytes are read, a job's launch is started, its output folder is listed, what was found there
  -- is archived under its key, and its row is put; a use of an archive is noted, or that it is gone, and what is of no use any more is discarded
  abbrev pub due_in : List Event → Work → Option Request
  due_in es nothing_due = None
  due_in es (input_heads_due place staged [] read) = None
  due_in es (input_heads_due place staged (path ∷ todo) read) = Some (Request.Host place (HostRequest.Head path MOST_CONTENTS))
  due_in es (start_due place inputs launch) = Some (Request.Host place (HostRequest.Start launch))
  due_in es (scan_due place millis) = Some (Request.Host place (HostRequest.Scan (folder_at s es place)))
  due_in es (output_heads_due place millis found [] read) = None
  due_in es (output_heads_due place millis found (name ∷ todo) read) =
      Some (Request.Host place (HostRequest.Head (path_in (folder_at s es place) name) (limit_of name)))
  due_in es (put_due place row) = Some (Request.Record place (RecordRequest.Put row))
  due_in es (drop_due place key) = Some (Request.Record place (RecordRequest.DropArchive key))
  due_in es (touch_due place key) = Some (Request.Record place (RecordRequest.Touch key))
  due_in es (discard_due place key more) = Some (Request.Host place (HostRequest.Discard key))
  due_in es (store_due place row) = Some (Request.Host place (HostRequest.Store row.key (folder_at s es place) row.files))

  abbrev pub due : Progress → Option Request
  due f = due_in f.events f.work

  -- each request where its rule allows it; what has no rule of its own is asked where it is due, and only then
  abbrev pub Allowed : Progress → List Mark → Request → Type 0
  Allowed f marks (Request.Host place (HostRequest.Measure path)) = MayMeasure f place path
  Allowed f marks (Request.Host place (HostRequest.Stage plan number)) = MayStage f marks place plan number
  Allowed f marks (Request.Host place (HostRequest.Fetch key number files)) = MayFetch f marks place key number files
  Allowed f marks (Request.Host place HostRequest.Collect) = MayCollect f marks place
  Allowed f marks (Request.Host place (HostRequest.Deliver plan)) = MayDeliver f marks place plan
  Allowed f marks (Request.Record place (RecordRequest.Find its_key)) = MayFind f place its_key
  Allowed f marks request = due f ≡ Some request
