-- What the steps of collecting by `cwl.output.json` answer. No public contract cites this.
use Rattle.std.specs.Prelude.{◌≡◌, List, None, Err}
use Rattle.cwl_process.specs.declared.tool.ToolOutput.{ToolOutput}
use Rattle.cwl_value.specs.declared.refusal.ValueRefusal.{ValueRefusal}
use Rattle.cwl_value.specs.declared.refusal.ValueRefusal.TheVariants as refusal
use Rattle.collected_outputs.specs.declared.fault.CollectFault.TheVariants.{BadOutputObject}
use Rattle.collected_outputs.specs.Collected.{Collected, fault_of, AreGathered}
use Rattle.collected_outputs.specs.Matched.{Name}
use Rattle.collected_outputs.specs.Outputs.{Left}
use Rattle.collected_outputs.specs.declared.fault.CollectError.{CollectError}
use Rattle.collected_outputs.specs.declared.fault.CollectError.TheVariants.{Refused, OutOfMemory}
use Rattle.collected_outputs.specs.declared.fault.Stop.{Stop}
use Rattle.collected_outputs.specs.declared.fault.Stop.TheVariants as stop

-- this is the fault
abbrev pub Faults : Collected → CollectError → Type 0
Faults collected OutOfMemory = Unit {0}
Faults collected (Refused fault) = collected ≡ Err fault

-- these are not gathered, for this fault
abbrev pub GathersNone : Left → List (Name × ToolOutput) → CollectError → Type 0
GathersNone left outputs OutOfMemory = Unit {0}
GathersNone left outputs (Refused fault) = AreGathered left outputs (Err fault)

-- the fault of the object as a whole
abbrev pub error_of : Stop → CollectError
error_of stop.OutOfMemory = OutOfMemory
error_of (stop.Refused fault) = Refused (fault_of None fault)

-- why the file is no object
abbrev pub stop_of : ValueRefusal → Stop
stop_of refusal.OutOfMemory = stop.OutOfMemory
stop_of _ = stop.Refused BadOutputObject
