-- What the steps of collecting answer. No public contract cites this.
use Rattle.std.specs.Prelude.{◌≡◌, List, Some, Ok, Err}
use Rattle.plain_data.specs.ByName.{with_value}
use Rattle.cwl_process.specs.declared.tool.ToolOutput.{ToolOutput}
use Rattle.cwl_value.specs.declared.value.Value.{Value}
use Rattle.param_refs.specs.declared.template.Part.{Part}
use Rattle.collected_outputs.specs.Gives.{Gives}
use Rattle.collected_outputs.specs.Listing.{Listing}
use Rattle.collected_outputs.specs.Matched.{Name}
use Rattle.collected_outputs.specs.Outputs.{Left, globs_of, AreNames, HasValue, AreOutputs}
use Rattle.collected_outputs.specs.Patterns.{pattern_texts}
use Rattle.collected_outputs.specs.declared.collect.Folder.{Folder}
use Rattle.collected_outputs.specs.declared.fault.CollectError.{CollectError}
use Rattle.collected_outputs.specs.declared.fault.CollectError.TheVariants as error
use Rattle.collected_outputs.specs.declared.fault.Stop.{Stop}
use Rattle.collected_outputs.specs.declared.fault.Stop.TheVariants as stop

abbrev pub left_of : Folder → Left
left_of f = record { listing = f.listing.now; heads = f.heads.now; stdout = f.streams.stdout.now; stderr = f.streams.stderr.now; inputs = f.speaks.inputs.now; runtime = f.speaks.runtime.now }

abbrev pub texts_in : Folder → List (List Part) → Gives (List Name)
texts_in f templates = pattern_texts f.speaks.inputs.now f.speaks.runtime.now templates

abbrev pub texts_by : Folder → ToolOutput → Gives (List Name)
texts_by f output = texts_in f (globs_of output.kind output.binding)

-- the output has this fault
abbrev pub HasNone : Left → ToolOutput → Stop → Type 0
HasNone left output stop.OutOfMemory = Unit {0}
HasNone left output (stop.Refused fault) = HasValue left output (Err fault)

abbrev pub NoNames : Listing → Gives (List Name) → Stop → Type 0
NoNames listing texts stop.OutOfMemory = Unit {0}
NoNames listing texts (stop.Refused fault) = AreNames listing texts (Err fault)

abbrev pub error_at : Name → Stop → CollectError
error_at id stop.OutOfMemory = error.OutOfMemory
error_at id (stop.Refused fault) = error.Refused (record { output = Some id; fault = fault })

pub record BindsOutput (left : Left) (id : Name) (output : ToolOutput) (before after : List (Name × Value)) : Type 0 where
  pub value : Value
  pub has : HasValue left output (Ok value)
  pub put : after ≡ with_value id value before

-- the output of that name has the fault
abbrev pub BindsNone : Left → Name → ToolOutput → CollectError → Type 0
BindsNone left id output error.OutOfMemory = Unit {0}
BindsNone left id output (error.Refused refused) = (refused.output ≡ Some id) × HasValue left output (Err refused.fault)

abbrev pub NoOutputs : Left → List (Name × ToolOutput) → CollectError → Type 0
NoOutputs left outputs error.OutOfMemory = Unit {0}
NoOutputs left outputs (error.Refused refused) = (id : Name) × (refused.output ≡ Some id) × AreOutputs left outputs (Err (id, refused.fault))
