-- What becomes of outputs that were collected: the job's row is put, unless its tool lets no earlier result be used (CWL v1.2, "WorkReuse");
-- where an archive is kept, the job's files are archived first; outputs that are not those of the row that was found are kept nowhere.
use Rattle.std.specs.Prelude.{◌≡◌, ◌≢◌, ℕ, Bool, true, false, List, [], ◌∷◌, Option, Some, None}
use Rattle.job_graph.specs.Jobs.{Job}
use Rattle.job_graph.specs.Words.{Fields, JobPlace}
use Rattle.job_key.specs.Key.{key}
use Rattle.job_reuse.specs.Rows.{made_row}
use Rattle.job_rows.specs.declared.row.Row.{Row}
use Rattle.staging.specs.declared.found.Found.{Found}
use Rattle.run_rules.specs.Events.{Event, job_succeeded, row_differs, job_repeated, Work, nothing_due, put_due, is_reusable, store_due}

-- no row was found, or one with these outputs
abbrev pub AgreesWith : Fields → Option Row → Type 0
AgreesWith outputs None = Unit {0}
AgreesWith outputs (Some row) = row.outputs ≡ outputs

-- what is told of collected outputs: a row that was found has told them before
abbrev pub told_of : JobPlace → Fields → Option Row → Event
told_of place outputs None = job_succeeded place outputs
told_of place outputs (Some row) = job_repeated place

-- the work that keeps a row, where an archive is kept or not
abbrev pub work_to_keep : Bool → JobPlace → Row → Work
work_to_keep true place row = store_due place row
work_to_keep false place row = put_due place row

-- where an archive is kept or not, of the job at a place, with this row where one was found, whose child ran for so long: this was found in
-- its output folder, and these outputs were collected
pub data Keeps (keep : Bool) (place : JobPlace) (job : Job) (row : Option Row) (millis : ℕ) (found : List Found) (outputs : Fields) : Work → List Event → Type 0 where
  keeps_none : is_reusable job ≡ false → Keeps keep place job row millis found outputs nothing_due (job_succeeded place outputs ∷ [])
  keeps : is_reusable job ≡ true → AgreesWith outputs row →
      Keeps keep place job row millis found outputs (work_to_keep keep place (made_row (key job.tool job.inputs) outputs found millis false)) (told_of place outputs row ∷ [])
  differs : (other : Row) → is_reusable job ≡ true → row ≡ Some other → other.outputs ≢ outputs →
      Keeps keep place job row millis found outputs nothing_due (row_differs place outputs ∷ [])
