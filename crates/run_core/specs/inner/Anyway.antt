-- What a run goes on by where memory runs out for what follows from an answer: that there is something that follows.
use Rattle.std.specs.Prelude.{◌≡◌, ℕ, Some, bytes_eq, slice_get}
use Rattle.std.specs.List.{IsDistinct}
use Rattle.std.specs.Map.{keys_of}
use Rattle.collected_outputs.specs.Laws.{EveryFolderHasOutputsOrAFault, SomeHeadsAreWanted}
use Rattle.command_line.specs.Laws.{LaunchOrRefusal}
use Rattle.job_graph.specs.Jobs.{Job}
use Rattle.job_reuse.specs.Laws.{FilesAreTheSameOrNot, RowsAreSoundOrNot, OutputsAreTheSameOrNot}
use Rattle.plain_data.specs.ByName.{IsByName}
use Rattle.plan_checker.specs.Laws.{EachHasLeast}
use Rattle.run_rules.specs.declared.request.Answer.{Answer}
use Rattle.run_rules.specs.declared.request.RecordAnswer.{RecordAnswer}
use Rattle.run_core.specs.declared.state.Course.{Course}
use Rattle.run_core.specs.declared.state.Phase.{Phase}
use Rattle.run_core.specs.inner.Course.{known_in}

-- the number of the job that the phase is of; where it is of none, that of any
abbrev pub job_in : Phase → ℕ
job_in (Phase.Staging job) = job
job_in (Phase.Working job phase) = job
job_in phase = 0

-- the outputs of a row that was found are in the order of their names
abbrev pub HasRowInOrder : Answer → Type 0
HasRowInOrder (Answer.Record (RecordAnswer.Found (Some row))) = IsByName row.outputs
HasRowInOrder answer = Unit {0}

-- no two inputs of the tool of the job of this number have one id, so it has a launch or is refused
pub record CanGoOn (course : Course) (number : ℕ) (answer : Answer) : Type 0 where
  pub ids : (job : Job) → slice_get (known_in course.known) number ≡ Some job → IsDistinct bytes_eq (keys_of job.tool.inputs)
  pub launches : LaunchOrRefusal
  pub outputs : EveryFolderHasOutputsOrAFault
  pub heads : SomeHeadsAreWanted
  pub rows : RowsAreSoundOrNot
  pub same : OutputsAreTheSameOrNot
  pub files : FilesAreTheSameOrNot
  pub row : HasRowInOrder answer
  pub least : EachHasLeast
