-- The lengths of what a step is scattered over (CWL v1.2, Workflow, "WorkflowStep": each scattered input is an array).
use Rattle.std.specs.Prelude.{◌≡◌, ℕ, List, length, Option, Some, None, Any}
use Rattle.cwl_value.specs.declared.value.DirVal.{DirVal}
use Rattle.cwl_value.specs.declared.value.FileVal.{FileVal}
use Rattle.cwl_value.specs.declared.value.Value.{Value, out-Value}
use Rattle.cwl_value.specs.declared.value.Value.TheOpen.{Value-F}
use Rattle.scatter_shape.specs.declared.refusal.ScatterError.{ScatterError}
use Rattle.scatter_shape.specs.declared.refusal.ScatterError.TheVariants.{Refused, OutOfMemory}
use Rattle.scatter_shape.specs.declared.refusal.ScatterFault.{ScatterFault}
use Rattle.scatter_shape.specs.declared.refusal.ScatterFault.TheVariants.{UnequalLengths, NotAList, TooManyJobs}

abbrev pub form_length : Value-F Value DirVal FileVal → Option ℕ
form_length (Value-F.List items) = Some (length items)
form_length _ = None

-- how many items a list has; nothing else has a length
abbrev pub list_length : Value → Option ℕ
list_length value = form_length (out-Value value)

-- why values have no lengths: one of them is no list
abbrev pub IsUnmeasured : List Value → ScatterFault → Type 0
IsUnmeasured values NotAList = Any (λ value. list_length value ≡ None) values
IsUnmeasured values UnequalLengths = ⊥
IsUnmeasured values TooManyJobs = ⊥

-- an answer in place of lengths: a fault that holds, or out of memory
abbrev pub IsNoLengths : List Value → ScatterError → Type 0
IsNoLengths values (Refused fault) = IsUnmeasured values fault
IsNoLengths values OutOfMemory = Unit {0}
