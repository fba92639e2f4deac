-- What the definitions come to, of jobs whose outputs were collected and of rows (CWL v1.2, Command Line Tool, "Output binding", "WorkReuse").
use Rattle.std.specs.Prelude.{◌≡◌, ◌≢◌, ◌↔◌, ◌⊎◌, ℕ, Bool, List, Ok, map, bytes_eq}
use Rattle.std.specs.List.{IsDistinct}
use Rattle.plain_data.specs.ByName.{IsByName}
use Rattle.cwl_process.specs.declared.tool.Tool.{Tool}
use Rattle.cwl_process.specs.declared.tool.ToolOutput.{ToolOutput}
use Rattle.cwl_value.specs.Erased.{fields_erased}
use Rattle.cwl_value.specs.Json.{json_of}
use Rattle.cwl_value.specs.Reading.{reading}
use Rattle.cwl_value.specs.declared.value.Value as value
use Rattle.collected_outputs.specs.Collected.{IsCollected}
use Rattle.collected_outputs.specs.Matched.{Name}
use Rattle.collected_outputs.specs.Object.{Named}
use Rattle.collected_outputs.specs.Outputs.{Left}
use Rattle.job_rows.specs.Storable.{IsKept}
use Rattle.job_rows.specs.declared.row.Row.{Row}
use Rattle.staging.specs.declared.found.Found.{Found}
use Rattle.job_reuse.specs.Form.{AreInForm}
use Rattle.job_reuse.specs.Left.{IsLeftBy}
use Rattle.job_reuse.specs.Places.{fields_places}
use Rattle.job_reuse.specs.Rows.{AreTheSame, made_row}
use Rattle.job_reuse.specs.Sound.{IsSound}

-- these values were collected as the outputs of a job, by whatever way, from what its child left behind
pub record AreOfAJob (found : List Found) (left : Left) (outputs : List (Name × ToolOutput)) (values : Named) : Type 0 where
  pub left_by : IsLeftBy found left
  pub collected : IsCollected left outputs (Ok values)

-- such as are read back from their JSON
abbrev pub CollectedOutputsAreKept : Type 0
CollectedOutputsAreKept = (found : List Found) (left : Left) (outputs : List (Name × ToolOutput)) (values : Named) → AreOfAJob found left outputs values → AreInForm values → IsKept values

-- what was put of a job reads as the same outputs
abbrev pub CollectedOutputsReadBack : Type 0
CollectedOutputsReadBack = (found : List Found) (left : Left) (outputs : List (Name × ToolOutput)) (values : Named) → AreOfAJob found left outputs values → AreInForm values → reading (json_of (value.Fields values)) ≡ Ok (value.Fields values)

-- the row of a job is one of its tool: what it has would be taken back
abbrev pub RowsOfJobsAreSound : Type 0
RowsOfJobsAreSound = (found : List Found) (left : Left) (tool : Tool) (values : Named) → AreOfAJob found left tool.outputs values
    → (key : Name) (millis : ℕ) (archived : Bool) → IsSound tool (made_row key values found millis archived)

-- a row whose outputs are in the order of their names is one of a tool, or it is not
abbrev pub RowsAreSoundOrNot : Type 0
RowsAreSoundOrNot = (tool : Tool) (row : Row) → IsByName row.outputs → IsSound tool row ⊎ (IsSound tool row → ⊥)

-- outputs are the same as others, or they are not
abbrev pub OutputsAreTheSameOrNot : Type 0
OutputsAreTheSameOrNot = (one other : Named) → (one ≡ other) ⊎ (one ≢ other)

-- files that were fetched are those of a row, or they are not
abbrev pub FilesAreTheSameOrNot : Type 0
FilesAreTheSameOrNot = (files fetched : List Found) → AreTheSame files fetched ⊎ (AreTheSame files fetched → ⊥)

-- outputs are the same where they are so without their places, and stand at the same places, which are names in the job's folder
abbrev pub SameWhereErasedAndNamedAlike : Type 0
SameWhereErasedAndNamedAlike = (one other : Named) → (one ≡ other) ↔ ((fields_erased one ≡ fields_erased other) × (fields_places one ≡ fields_places other))

-- with fetched files that agree in place of its own, a row whose files have each name once is as sound as it was
abbrev pub FetchedFilesStandIn : Type 0
FetchedFilesStandIn = (tool : Tool) (row : Row) (fetched : List Found) → AreTheSame row.files fetched → IsDistinct bytes_eq (map (λ (f : Found). f.name) row.files) → IsSound tool row → IsSound tool (record row { files = fetched })
