-- Which files are fetched, and what comes of it.
use Rattle.std.specs.Prelude.{◌≡◌, ◌&&◌, ◌+◌, ◌<◌, ℕ, Bool, true, false, List, Option, Some, None, length, slice_get}
use Rattle.proc_host.specs.declared.call.HostRequest.{HostRequest}
use Rattle.staging.specs.declared.found.Found.{Found}
use Rattle.job_graph.specs.Jobs.{Job}
use Rattle.job_reuse.specs.Rows.{AreTheSame}
use Rattle.job_rows.specs.declared.row.Row.{Row}
use Rattle.plan_checker.specs.Plan.{mark}
use Rattle.plan_checker.specs.declared.plan.Mark.{Mark}
use Rattle.run_rules.specs.declared.request.RecordRequest.{RecordRequest}
use Rattle.run_rules.specs.declared.request.Request.{Request}
use Rattle.run_core.specs.declared.state.Course.{Course}
use Rattle.run_core.specs.declared.state.Given.{Given}
use Rattle.run_core.specs.declared.state.Phase.{Phase}
use Rattle.run_core.specs.declared.state.Turn.{Turn}
pub use Rattle.run_core.specs.inner.Archives.{archived_in}
use Rattle.run_core.specs.inner.Course.{key_in, known_in, place_at}
use Rattle.run_core.specs.inner.FoundRows.{row_in}
use Rattle.run_core.specs.inner.JobStates.{waits_in}
use Rattle.run_core.specs.inner.Marks.{is_load, marks_in}
use Rattle.run_core.specs.inner.Turn.{tells_record}

-- whether the job of a number has an archived row, whose archive was not found to be another
abbrev pub can_load : Course → ℕ → Bool
can_load course number = archived_in course.lost.items (row_in course.rows number)

-- whether the job of a number waits, a plan of these marks loads it, and it can be loaded
abbrev pub loads_in : List Mark → Course → ℕ → Bool
loads_in marks course number = waits_in course.jobs number && (is_load (mark marks number) && can_load course number)

-- none of the first so many jobs does
abbrev pub NoneLoads : List Mark → Course → ℕ → Type 0
NoneLoads marks course count = (n : ℕ) → n < count → loads_in marks course n ≡ false

-- no archive is kept, or no known job waits that is loaded
pub data NoneToFetch (given : Given) (course : Course) : Type 0 where
  none_kept : given.options.keep ≡ false → NoneToFetch given course
  none_loads : NoneLoads (marks_in course.planned) course (length (known_in course.known)) → NoneToFetch given course

-- the lowest known job that waits and is loaded
pub record IsNextToFetch (given : Given) (course : Course) (number : ℕ) : Type 0 where
  pub keeps : given.options.keep ≡ true
  pub within : number < length (known_in course.known)
  pub loads : loads_in (marks_in course.planned) course number ≡ true
  pub lowest : NoneLoads (marks_in course.planned) course number

-- the files of the row of the job of a number are fetched
pub record Fetches (course : Course) (number : ℕ) (turn : Turn) : Type 0 where
  pub job : Job
  pub known : slice_get (known_in course.known) number ≡ Some job
  pub row : Row
  pub found : row_in course.rows number ≡ Some row
  pub is : turn ≡ record { asks = Request.Host job.place (HostRequest.Fetch row.key (course.folders + 1) row.files); phase = Phase.Fetching number }

-- these are the files of a row
abbrev pub AreOf : Option Row → List Found → Type 0
AreOf None found = ⊥
AreOf (Some row) found = AreTheSame row.files found

abbrev pub AgreesAt : Course → ℕ → List Found → Type 0
AgreesAt course number found = AreOf (row_in course.rows number) found

-- the archive of the row of the job of a number was used
abbrev pub touches : Course → ℕ → Turn
touches course number = tells_record (place_at (known_in course.known) number) (RecordRequest.Touch (key_in course.rows number)) (Phase.Touching number)

-- or it is dropped
abbrev pub drops : Course → ℕ → Turn
drops course number = tells_record (place_at (known_in course.known) number) (RecordRequest.DropArchive (key_in course.rows number)) (Phase.Dropping number)
