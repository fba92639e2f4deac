-- What comes of a question by the map of the record.
use Rattle.std.specs.Prelude.{List, [], ◌∷◌, Result, Ok, Err, Contains}
use Rattle.std.specs.List.{cons_option}
use Rattle.std.specs.declared.alloc.AllocError.{AllocError}
use Rattle.job_graph.specs.Words.{Fields, JobPlace}
use Rattle.job_rows.specs.Map.{RowMap, changed_by_all}
use Rattle.job_rows.specs.Storable.{IsKept}
use Rattle.job_rows.specs.declared.row.Row.{Row}
use Rattle.run_rules.specs.Steps.{command}
use Rattle.run_rules.specs.declared.request.Answer.{Answer}
use Rattle.run_rules.specs.declared.request.Pair.{Pair}
use Rattle.run_rules.specs.declared.request.RecordAnswer.{RecordAnswer}
use Rattle.run_rules.specs.declared.request.RecordRequest.{RecordRequest}
use Rattle.run_rules.specs.declared.request.RecordRequest.TheVariants.{Put}
use Rattle.run_rules.specs.declared.request.Request.{Request}
use Rattle.workflow_engine.specs.ByMap.{IsAnswerBy, KeepsToMap, change_of}

-- the outputs of the row that is to be put, if one is
abbrev pub IsPut : (Fields → Type 0) → RecordRequest → Type 0
IsPut P (Put row) = P row.outputs
IsPut P request = Unit {0}

-- an answer is by the map, and the record then holds what the command made of it, if a row that is put is such as is read back; a command that
-- ran out of memory leaves the map as it is
abbrev pub IsToldBy : RowMap → RecordRequest → Result RecordAnswer AllocError → (Holds : RowMap → Type 0) → Type 0
IsToldBy map request (Ok answer) Holds =
    IsPut IsKept request → IsAnswerBy map request answer × Holds (changed_by_all (cons_option (change_of request answer) []) map)
IsToldBy map request (Err error) Holds = Holds map

-- the pair that a question and its answer are, or none where memory ran out
abbrev pub pairs_by : Request → Result Answer AllocError → List Pair
pairs_by asks (Ok answer) = record { request = asks; answer = answer } ∷ []
pairs_by asks (Err error) = []

-- the outputs of each row that was to be put
pub record ArePut (P : Fields → Type 0) (t : List Pair) : Type 0 where
  pub each : (place : JobPlace) (row : Row) (answer : RecordAnswer) → Contains t (command place (Put row) answer) → P row.outputs

-- if they are such as a record reads back, it keeps to its map
pub record KeepsToMapIfRead (sound_before sound_after : Type 0) (held holds : RowMap → Type 0) (t : List Pair) : Type 0 where
  pub keeps : ArePut IsKept t → KeepsToMap sound_before sound_after held holds t
