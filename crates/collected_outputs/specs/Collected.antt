-- What is collected of a job: its output object, or the fault that it ends with (CWL v1.2, Command Line Tool, "Output binding").
use Rattle.std.specs.Prelude.{◌≡◌, false, if◌then◌else◌, List, [], ◌∷◌, codes, option_and_then, Option, Some, None, Result, Ok, Err}
use Rattle.plain_data.specs.ByName.{value_at, with_value}
use Rattle.cwl_process.specs.declared.tool.ToolOutput.{ToolOutput}
use Rattle.cwl_value.specs.declared.value.Value.{Value}
use Rattle.collected_outputs.specs.declared.fault.CollectFault.{CollectFault}
use Rattle.collected_outputs.specs.declared.fault.CollectFault.TheVariants.{NotTyped}
use Rattle.collected_outputs.specs.declared.fault.OutputFault.{OutputFault}
use Rattle.collected_outputs.specs.declared.fault.CollectError.{CollectError}
use Rattle.collected_outputs.specs.declared.fault.CollectError.TheVariants.{Refused, OutOfMemory}
use Rattle.collected_outputs.specs.declared.listing.Entry.{Entry}
use Rattle.collected_outputs.specs.Gives.{Gives, and_then}
use Rattle.collected_outputs.specs.Listing.{Listing}
use Rattle.collected_outputs.specs.Matched.{Name}
use Rattle.collected_outputs.specs.Object.{Named, object_of, written}
use Rattle.collected_outputs.specs.Outputs.{Left, has_object, AreOutputs, checked}
use Rattle.collected_outputs.specs.Readable.{is_readable}

-- the outputs by name, or a fault with the output that it is met at
abbrev pub Collected : Type 0
Collected = Result Named OutputFault

abbrev pub fault_of : Option Name → CollectFault → OutputFault
fault_of output fault = record { output = output; fault = fault }

-- an output object has to be readable from its JSON
abbrev pub readable : Named → Collected
readable values = (if is_readable values then Ok values else Err (fault_of None NotTyped))

abbrev pub then_collected : Collected → (Named → Collected) → Collected
then_collected (Ok values) f = f values
then_collected (Err fault) f = Err fault

-- By `cwl.output.json`, where it is found. What it says under names that are no output is ignored.

abbrev pub unless_folder : Entry → Option Entry
unless_folder e = (if e.is_dir then None else Some e)

abbrev pub object_entry : Listing → Option Entry
object_entry listing = option_and_then unless_folder (value_at (codes "cwl.output.json") listing)

-- the value that the object has for an output
abbrev pub written_value : Listing → Named → Name × ToolOutput → Gives Value
written_value listing object output = and_then (written listing (value_at output.0 object)) (checked listing output.1.kind)

abbrev pub with_output : Name → Gives Value → Named → Collected
with_output id (Ok v) values = Ok (with_value id v values)
with_output id (Err fault) values = Err (fault_of (Some id) fault)

-- the values so far with those of more outputs, or the fault of the first that has none
abbrev pub written_after : Listing → Named → Named → List (Name × ToolOutput) → Collected
written_after listing object values [] = Ok values
written_after listing object values (output ∷ outputs) =
    then_collected (with_output output.0 (written_value listing object output) values) (λ more. written_after listing object more outputs)

abbrev pub by_object : Listing → List (Name × ToolOutput) → Gives Named → Collected
by_object listing outputs (Err fault) = Err (fault_of None fault)
by_object listing outputs (Ok object) = written_after listing object [] outputs

-- By the bindings of the outputs, or by the object.

pub data AreGathered (left : Left) (outputs : List (Name × ToolOutput)) : Collected → Type 0 where
  bound : (values : Named) → has_object left.listing ≡ false → AreOutputs left outputs (Ok values) → AreGathered left outputs (Ok values)
  unbound : (id : Name) (fault : CollectFault) → has_object left.listing ≡ false → AreOutputs left outputs (Err (id, fault)) → AreGathered left outputs (Err (fault_of (Some id) fault))
  by_file : (e : Entry) → object_entry left.listing ≡ Some e → AreGathered left outputs (by_object left.listing outputs (object_of e left.heads))

-- what a job has as its outputs
pub record IsCollected (left : Left) (outputs : List (Name × ToolOutput)) (collected : Collected) : Type 0 where
  pub gathered : Collected
  pub are_gathered : AreGathered left outputs gathered
  pub is : collected ≡ then_collected gathered readable

-- what a refusal says: this is the job's fault. Out of memory may come at any time
abbrev pub IsFault : Left → List (Name × ToolOutput) → CollectError → Type 0
IsFault left outputs OutOfMemory = Unit {0}
IsFault left outputs (Refused fault) = IsCollected left outputs (Err fault)
